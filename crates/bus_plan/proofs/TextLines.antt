-- Written lines are cut as they were joined, and so are their fields.
use Rattle.std.proofs.Common.{◌≡◌, ◌∙◌, ap, refl, ℕ, zero, suc, ◌-◌, ◌<◌, ◌≤◌, Bool, true, false, not, ◌&&◌, ◌||◌, ◌==◌, List, [], ◌∷◌, ◌++◌, length, map, take, append_assoc, append-nil, arith}
use Rattle.std.specs.Prelude.{if◌then◌else◌, All, filter, slice_index, nat_le}
use Rattle.std.specs.List.{list_all, slice_split, flat_map}
use Rattle.std.specs.Str.Lines.{lines, lines_of_parts, strip_carriage_return}
use Rattle.std.proofs.lemmas.Bool.{leb-true, ne_eqb, le-leb}
use Rattle.std.proofs.lemmas.List.Splits.{slice_split_at, slice_split_none, slice_split-cons_yes, slice_split-cons_no}
use Rattle.std.proofs.lemmas.List.Folds.{list_all-append}
use Rattle.std.proofs.lemmas.List.Sums.{AllPass-from_list_all}
use Rattle.bus_plan.specs.Lines.{is_line_byte, is_line, is_blank, is_filled, fields}
use Rattle.bus_plan.specs.PlanText.{spaced}
use Rattle.bus_plan.proofs.BoolLemmas.{and-left, and-right, and_both}
use Rattle.bus_plan.proofs.LineLemmas.{is_feed}
use Rattle.bus_plan.proofs.TextBytes.{is_graphic, IsWord}

-- ---- bytes
graphic-line_byte : (b : ℕ) → is_graphic b ≡ true → is_line_byte b ≡ true
graphic-line_byte b h =
    let above : 33 ≤ b = leb-true 33 b (and-left _ _ h) in
    let space : nat_le 32 b ≡ true = le-leb 32 b (omega arith) in
    let other : (b == 9) ≡ false = ne_eqb b 9 (λ e. absurd (omega arith)) in
    ap (λ t. t || (nat_le 32 b && nat_le b 126)) other ∙ and_both _ _ space (and-right (nat_le 33 b) _ h)

graphic-blank : (b : ℕ) → is_graphic b ≡ true → is_blank b ≡ false
graphic-blank b h =
    let above : 33 ≤ b = leb-true 33 b (and-left _ _ h) in
    let space : (b == 32) ≡ false = ne_eqb b 32 (λ e. absurd (omega arith)) in
    let tab : (b == 9) ≡ false = ne_eqb b 9 (λ e. absurd (omega arith)) in
    ap (λ t. t || (b == 9)) space ∙ tab

line_byte-feed : (b : ℕ) → is_line_byte b ≡ true → is_feed b ≡ false
line_byte-feed b h = ne_eqb b 10 (λ e. absurd (cc (ap is_line_byte e)))

line_byte-return : (b : ℕ) → is_line_byte b ≡ true → (b == 13) ≡ false
line_byte-return b h = ne_eqb b 13 (λ e. absurd (cc (ap is_line_byte e)))

-- ---- lines
no-feed : (l : List ℕ) → is_line l ≡ true → All (λ b. is_feed b ≡ false) l
no-feed [] h k d within = absurd (omega arith)
no-feed (b ∷ l) h zero d within = line_byte-feed b (and-left _ _ h)
no-feed (b ∷ l) h (suc k) d within = no-feed l (and-right _ _ h) k d (omega arith)

strip-none : (l : List ℕ) → is_line l ≡ true → strip_carriage_return l ≡ l
strip-none [] h = refl
strip-none (b ∷ l) h =
    let last : length (b ∷ l) - 1 < length (b ∷ l) = omega arith in
    let byte : is_line_byte (slice_index (b ∷ l) (length (b ∷ l) - 1)) ≡ true = AllPass-from_list_all is_line_byte (b ∷ l) h (length (b ∷ l) - 1) 0 last in
    ap (λ t. if t then take (length (b ∷ l) - 1) (b ∷ l) else b ∷ l) (line_byte-return (slice_index (b ∷ l) (length (b ∷ l) - 1)) byte)

parts-some : (p : ℕ → Bool) (bs : List ℕ) → 0 < length (slice_split p bs)
parts-some p [] = omega arith
parts-some p (b ∷ bs) = by_test (p b) refl (slice_split p bs) refl
  where
    by_test : (t : Bool) → p b ≡ t → (ps : List (List ℕ)) → slice_split p bs ≡ ps → 0 < length (slice_split p (b ∷ bs))
    by_test true e ps is = rw (slice_split-cons_yes p b bs e) (omega arith)
    by_test false e [] is = rw (slice_split-cons_no p b bs e, is) (omega arith)
    by_test false e (x ∷ xs) is = rw (slice_split-cons_no p b bs e, is) (omega arith)

lines-cons : (x : List ℕ) (ps : List (List ℕ)) → 0 < length ps → lines_of_parts (x ∷ ps) ≡ strip_carriage_return x ∷ lines_of_parts ps
lines-cons x [] some = absurd (omega arith)
lines-cons x (y ∷ more) some = refl

lines-first : (l rest : List ℕ) → is_line l ≡ true → lines (l ++ 10 ∷ rest) ≡ l ∷ lines rest
lines-first l rest h =
    ap lines_of_parts (slice_split_at is_feed l 10 rest (no-feed l h) refl)
    ∙ lines-cons l (slice_split is_feed rest) (parts-some is_feed rest)
    ∙ ap (λ x. x ∷ lines rest) (strip-none l h)

-- a line for each element, and what stands behind them
pub lines-more : {A : Type 0} (text : A → List ℕ) (xs : List A) (rest : List ℕ) → All (λ x. is_line (text x) ≡ true) xs
    → lines (flat_map (λ x. text x ++ 10 ∷ []) xs ++ rest) ≡ map text xs ++ lines rest
lines-more text [] rest h = refl
lines-more text (x ∷ xs) rest h =
    let more = flat_map (λ x. text x ++ 10 ∷ []) xs in
    ap lines (append_assoc (text x ++ 10 ∷ []) more rest ∙ append_assoc (text x) (10 ∷ []) (more ++ rest))
    ∙ lines-first (text x) (more ++ rest) (h 0 x (omega arith))
    ∙ ap (λ ls. text x ∷ ls) (lines-more text xs rest (λ k d within. h (suc k) d (omega arith)))

pub lines-joined : {A : Type 0} (text : A → List ℕ) (xs : List A) → All (λ x. is_line (text x) ≡ true) xs → lines (flat_map (λ x. text x ++ 10 ∷ []) xs) ≡ map text xs
lines-joined text [] h = refl
lines-joined text (x ∷ xs) h =
    ap lines (append_assoc (text x) (10 ∷ []) (flat_map (λ x. text x ++ 10 ∷ []) xs))
    ∙ lines-first (text x) (flat_map (λ x. text x ++ 10 ∷ []) xs) (h 0 x (omega arith))
    ∙ ap (λ ls. text x ∷ ls) (lines-joined text xs (λ k d within. h (suc k) d (omega arith)))

-- ---- fields
no-blank : (f : List ℕ) → list_all is_graphic f ≡ true → All (λ b. is_blank b ≡ false) f
no-blank [] h k d within = absurd (omega arith)
no-blank (b ∷ f) h zero d within = graphic-blank b (and-left _ _ h)
no-blank (b ∷ f) h (suc k) d within = no-blank f (and-right _ _ h) k d (omega arith)

split-spaced : (f : List ℕ) (fs : List (List ℕ)) → All IsWord (f ∷ fs) → slice_split is_blank (f ++ spaced fs) ≡ f ∷ fs
split-spaced f [] words =
    ap (slice_split is_blank) (append-nil f) ∙ slice_split_none is_blank f (no-blank f ((words 0 f (omega arith)).graphic))
split-spaced f (g ∷ gs) words =
    slice_split_at is_blank f 32 (g ++ spaced gs) (no-blank f ((words 0 f (omega arith)).graphic)) refl
    ∙ ap (λ t. f ∷ t) (split-spaced g gs (λ k d within. words (suc k) d (omega arith)))

filled-word : (f : List ℕ) → IsWord f → is_filled f ≡ true
filled-word f word = let some : 0 < length f = word.some in ap not (ne_eqb (length f) 0 (λ e. absurd (omega arith)))

filter-words : (fs : List (List ℕ)) → All IsWord fs → filter is_filled fs ≡ fs
filter-words [] words = refl
filter-words (f ∷ fs) words =
    ap (λ t. if t then f ∷ filter is_filled fs else filter is_filled fs) (filled-word f (words 0 f (omega arith)))
    ∙ ap (λ t. f ∷ t) (filter-words fs (λ k d within. words (suc k) d (omega arith)))

pub fields-spaced : (f : List ℕ) (fs : List (List ℕ)) → All IsWord (f ∷ fs) → fields (f ++ spaced fs) ≡ f ∷ fs
fields-spaced f fs words = ap (filter is_filled) (split-spaced f fs words) ∙ filter-words (f ∷ fs) words

-- and they make a line
word-line : (f : List ℕ) → list_all is_graphic f ≡ true → is_line f ≡ true
word-line [] h = refl
word-line (b ∷ f) h = and_both _ _ (graphic-line_byte b (and-left _ _ h)) (word-line f (and-right _ _ h))

spaced-line : (fs : List (List ℕ)) → All IsWord fs → is_line (spaced fs) ≡ true
spaced-line [] words = refl
spaced-line (f ∷ fs) words =
    list_all-append is_line_byte f (spaced fs)
    ∙ and_both _ _ (word-line f ((words 0 f (omega arith)).graphic)) (spaced-line fs (λ k d within. words (suc k) d (omega arith)))

pub line-spaced : (f : List ℕ) (fs : List (List ℕ)) → All IsWord (f ∷ fs) → is_line (f ++ spaced fs) ≡ true
line-spaced f fs words =
    list_all-append is_line_byte f (spaced fs)
    ∙ and_both _ _ (word-line f ((words 0 f (omega arith)).graphic)) (spaced-line fs (λ k d within. words (suc k) d (omega arith)))
