-- A line's fields, cut from its front.
use Rattle.std.proofs.Common.{◌≡◌, ◌∙◌, ap, sym, refl, subst, ℕ, zero, suc, ◌+◌, ◌-◌, ◌<◌, ◌≤◌, Bool, true, false, not, List, [], ◌∷◌, ◌++◌, length, get_or, take, drop, arith}
use Rattle.std.specs.Prelude.{All, filter, slice_index, slice_range, if◌then◌else◌, ◌==◌, nat_lt}
use Rattle.std.specs.List.{position_or_len}
use Rattle.std.proofs.lemmas.Bool.{ltb-true, ltb-false, ne_eqb}
use Rattle.std.proofs.lemmas.Bool.Decides.{nat_tests}
use Rattle.std.proofs.lemmas.List.{take_all, drop_all, drop_more, take-append-drop, length-take-le, get_or-take, get_or-drop, length-drop, get_or_default}
use Rattle.std.proofs.lemmas.List.Splits.{slice_split_at, slice_split_none, slice_split-cons_yes}
use Rattle.std.proofs.lemmas.List.Sums.{fails_before_first, passes_at_first, prefix_len-le-length}
use Rattle.std.proofs.lemmas.Slice.{between_to_end}
use Rattle.bus_plan.specs.Lines.{is_blank, is_filled, fields, is_skipped}
use Rattle.bus_plan.specs.Private.FieldsLeft.{BeginsFilled}

-- blanks in front say nothing
pub fields-skip : (xs : List ℕ) (n : ℕ) → n ≤ length xs → ((k : ℕ) → k < n → is_blank (slice_index xs k) ≡ true) → fields xs ≡ fields (drop n xs)
fields-skip xs zero within blank = refl
fields-skip [] (suc n) within blank = absurd (omega arith)
fields-skip (x ∷ xs) (suc n) within blank =
    ap (filter is_filled) (slice_split-cons_yes is_blank x xs (blank 0 (omega arith)))
    ∙ fields-skip xs n (omega arith) (λ k below. blank (suc k) (omega arith))

filled-part : (xs : List ℕ) (n : ℕ) → 0 < n → n ≤ length xs → is_filled (take n xs) ≡ true
filled-part xs n some within = let long : length (take n xs) ≡ n = length-take-le n xs within in ap not (ne_eqb (length (take n xs)) 0 (λ e. absurd (omega arith)))

-- bytes that aren't blank, up to a blank or the end, are the first field
pub fields-first : (xs : List ℕ) (n : ℕ) → 0 < n → n ≤ length xs → ((k : ℕ) → k < n → is_blank (slice_index xs k) ≡ false)
    → (n < length xs → is_blank (slice_index xs n) ≡ true) → fields xs ≡ take n xs ∷ fields (drop n xs)
fields-first xs n some within filled ends = by_test (nat_lt n (length xs)) refl
  where
    part : All (λ b. is_blank b ≡ false) (take n xs)
    part k d below =
        let long : length (take n xs) ≡ n = length-take-le n xs within in
        let lt : k < n = omega arith in
        ap is_blank (get_or-take n xs k d lt ∙ get_or_default xs k d 0 (omega arith)) ∙ filled k lt

    by_test : (t : Bool) → nat_lt n (length xs) ≡ t → fields xs ≡ take n xs ∷ fields (drop n xs)
    by_test true e =
        let inside : n < length xs = ltb-true n (length xs) e in
        let rest : drop n xs ≡ get_or xs n 0 ∷ drop (n + 1) xs = drop_more xs n 0 inside in
        ap fields (sym (take-append-drop n xs) ∙ ap (λ r. take n xs ++ r) rest)
        ∙ ap (filter is_filled) (slice_split_at is_blank (take n xs) (get_or xs n 0) (drop (n + 1) xs) part (ends inside))
        ∙ ap (λ t. if t then take n xs ∷ fields (drop (n + 1) xs) else fields (drop (n + 1) xs)) (filled-part xs n some within)
        ∙ ap (λ fs. take n xs ∷ fs) (sym (ap fields rest ∙ ap (filter is_filled) (slice_split-cons_yes is_blank (get_or xs n 0) (drop (n + 1) xs) (ends inside))))
    by_test false e =
        let past : length xs ≤ n = ltb-false n (length xs) e in
        ap fields (sym (take_all n xs past))
        ∙ ap (filter is_filled) (slice_split_none is_blank (take n xs) part)
        ∙ ap (λ t. if t then take n xs ∷ [] else []) (filled-part xs n some within)
        ∙ ap (λ fs. take n xs ∷ fs) (sym (ap fields (drop_all n xs past)))

-- whether a line is skipped shows at its first byte
pub skipped-none : (rest : List ℕ) → length rest ≡ 0 → is_skipped (fields rest) ≡ true
skipped-none [] e = refl
skipped-none (x ∷ rest) e = absurd (omega arith)

first-above : (rest : List ℕ) → BeginsFilled rest → 0 < length rest → 0 < position_or_len is_blank rest
first-above [] begins some = absurd (omega arith)
first-above (x ∷ rest) begins some =
    let filled : is_blank x ≡ false = begins some in
    let counts : position_or_len is_blank (x ∷ rest) ≡ 1 + position_or_len is_blank rest = ap (λ t. if not t then 1 + position_or_len is_blank rest else 0) filled in
    omega arith

pub skipped-first : (rest : List ℕ) → BeginsFilled rest → 0 < length rest → is_skipped (fields rest) ≡ (slice_index rest 0 == 35)
skipped-first rest begins some =
    let above = first-above rest begins some in
    ap is_skipped (fields-first rest (position_or_len is_blank rest) above (prefix_len-le-length (λ b. not (is_blank b)) rest)
    (λ k below. fails_before_first is_blank rest k 0 below) (λ inside. passes_at_first is_blank rest 0 inside))
    ∙ ap (λ b. b == 35) (get_or-take (position_or_len is_blank rest) rest 0 0 above)

-- ---- after a call
begins-behind : (xs : List ℕ) (n : ℕ) → (n < length xs → is_blank (slice_index xs n) ≡ false) → BeginsFilled (drop n xs)
begins-behind xs n found some =
    let inside : n < length xs = omega (arith, length-drop n xs) in
    ap is_blank (get_or-drop n xs 0 0) ∙ ap (λ i. is_blank (slice_index xs i)) (omega arith) ∙ found inside

pub begins-after : (xs rest : List ℕ) (n : ℕ) → rest ≡ drop n xs → (n < length xs → is_blank (slice_index xs n) ≡ false) → BeginsFilled rest
begins-after xs rest n is found = subst BeginsFilled (sym is) (begins-behind xs n found)

pub some-of : (n : ℕ) → (n == 0) ≡ false → 0 < n
some-of n other = grind (arith, nat_tests)

above-place : (rest : List ℕ) (n : ℕ) → BeginsFilled rest → 0 < length rest → (n < length rest → is_blank (slice_index rest n) ≡ true) → 0 < n
above-place rest zero begins some found = absurd (cc (begins some, found some))
above-place rest (suc n) begins some found = omega arith

-- the field up to the first blank, and those behind the blanks that follow
pub fields-cut : (rest field behind : List ℕ) (n m : ℕ) → BeginsFilled rest → 0 < length rest → n ≤ length rest
    → ((k : ℕ) → k < n → is_blank (slice_index rest k) ≡ false) → (n < length rest → is_blank (slice_index rest n) ≡ true)
    → field ≡ take n rest → behind ≡ drop n rest → m ≤ length behind → ((k : ℕ) → k < m → is_blank (slice_index behind k) ≡ true)
    → fields rest ≡ field ∷ fields (slice_range behind m (length behind))
fields-cut rest field behind n m begins some within filled ends field_is behind_is short blank =
    fields-first rest n (above-place rest n begins some ends) within filled ends
    ∙ ap (λ f. f ∷ fields (drop n rest)) (sym field_is)
    ∙ ap (λ b. field ∷ fields b) (sym behind_is)
    ∙ ap (λ fs. field ∷ fs) (fields-skip behind m short blank)
    ∙ ap (λ b. field ∷ fields b) (sym (between_to_end behind m (length behind) (omega arith)))

-- what is left from a place begins with the byte there
pub filled-from : (line : List ℕ) (n : ℕ) → (n < length line → is_blank (slice_index line n) ≡ false) → BeginsFilled (take (length line - n) (drop n line))
filled-from line n found =
    let same : n + 0 ≡ n = omega arith in
    subst BeginsFilled (sym (between_to_end line n (length line) (omega arith)))
    (λ some. ap is_blank (get_or-drop n line 0 0 ∙ ap (λ i. get_or line i 0) same) ∙ found (omega (arith, some, length-drop n line)))
