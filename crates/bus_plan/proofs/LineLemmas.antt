-- The lines that `bstr` cuts are std's `lines`.
use Rattle.std.proofs.Common.{◌≡◌, ◌-◌, ◌<◌, ℕ, suc, Bool, true, false, cond, not, ◌==◌, ◌&&◌, List, [], ◌∷◌, ◌++◌, length, length-append, map, take, slice_index, refl, sym, ap, ◌∙◌, arith}
use Rattle.std.specs.Prelude.{if◌then◌else◌, nat_lt}
use Rattle.std.proofs.lemmas.Bool.{cond-false, ne_eqb, eqb-true, lt-ltb}
use Rattle.std.proofs.Math.Seq.{get_or-append_seam, take-append_seam}
use Rattle.std.specs.List.{slice_split, onto_first, list_any, list_all}
use Rattle.std.specs.Str.Lines.{lines, lines_of_parts, strip_carriage_return}
use Rattle.std.proofs.lemmas.List.Splits.{slice_split-cons_yes, slice_split-cons_no}
use Rattle.std.proofs.lemmas.List.Folds.{list_any_at}
use Rattle.bus_plan.proofs.BoolLemmas.{and-left, and-right, and_false}
use Rattle.bstr.specs.Text.{line_len, lines_of, without_terminator, no_cr}
use Rattle.bstr.proofs.lemmas.LineLemmas.{lines-nil, lines-step}

abbrev pub is_feed : ℕ → Bool
is_feed b = b == 10

-- what stands between line feeds, each part with its feed again
abbrev terminated : List (List ℕ) → List (List ℕ)
terminated [] = []
terminated (x ∷ []) = if length x == 0 then [] else x ∷ []
terminated (x ∷ y ∷ more) = (x ++ 10 ∷ []) ∷ terminated (y ∷ more)

-- `lines_of` goes down a list as `slice_split` does
lines_of-feed : (rest : List ℕ) → lines_of (10 ∷ rest) ≡ (10 ∷ []) ∷ lines_of rest
unfolding line_len
lines_of-feed rest = lines-step (10 ∷ rest) (omega arith)

line_len-other : (b : ℕ) (rest : List ℕ) → (b == 10) ≡ false → line_len (b ∷ rest) ≡ suc (line_len rest)
unfolding line_len
line_len-other b rest e = cond-false _ _ _ e

lines_of-other : (b : ℕ) (rest : List ℕ) → (b == 10) ≡ false → lines_of (b ∷ rest) ≡ onto_first b (lines_of rest)
unfolding line_len
lines_of-other b [] e = lines-step (b ∷ []) (omega arith) ∙ rw (line_len-other b [] e) (ap (λ t. (b ∷ []) ∷ t) lines-nil ∙ rw lines-nil refl)
lines_of-other b (c ∷ rest) e =
    lines-step (b ∷ c ∷ rest) (omega arith) ∙ rw (line_len-other b (c ∷ rest) e, lines-step (c ∷ rest) (omega arith)) refl

-- a list with an element isn't empty
filled : (x : ℕ) (xs : List ℕ) → (length (x ∷ xs) == 0) ≡ false
filled x xs = ne_eqb _ _ (λ e. absurd (omega arith))

-- the parts of a list between line feeds, its lines with their feeds
terminated-onto : (b : ℕ) (p : List ℕ) (more : List (List ℕ)) → terminated (onto_first b (p ∷ more)) ≡ onto_first b (terminated (p ∷ more))
terminated-onto b [] [] = refl
terminated-onto b (x ∷ p) [] = ap (λ t. cond t [] ((b ∷ x ∷ p) ∷ [])) (filled b (x ∷ p)) ∙ sym (ap (λ t. onto_first b (cond t [] ((x ∷ p) ∷ []))) (filled x p))
terminated-onto b p (y ∷ more) = refl

terminated-split_onto : (b : ℕ) (ps : List (List ℕ)) → 0 < length ps → terminated (onto_first b ps) ≡ onto_first b (terminated ps)
terminated-split_onto b [] some = absurd (omega arith)
terminated-split_onto b (p ∷ more) some = terminated-onto b p more

length-onto_first : (b : ℕ) (ps : List (List ℕ)) → 0 < length (onto_first b ps)
length-onto_first b [] = omega arith
length-onto_first b (p ∷ ps) = omega arith

some_part : (bs : List ℕ) → 0 < length (slice_split is_feed bs)
some_part [] = omega arith
some_part (b ∷ bs) = by_test (b == 10) refl
  where
    by_test : (t : Bool) → (b == 10) ≡ t → 0 < length (slice_split is_feed (b ∷ bs))
    by_test true e = rw (slice_split-cons_yes is_feed b bs e) (omega arith)
    by_test false e = rw (slice_split-cons_no is_feed b bs e) (length-onto_first b (slice_split is_feed bs))

terminated-feed : (ps : List (List ℕ)) → 0 < length ps → terminated ([] ∷ ps) ≡ (10 ∷ []) ∷ terminated ps
terminated-feed [] some = absurd (omega arith)
terminated-feed (p ∷ ps) some = refl

lines_of-terminated : (bs : List ℕ) → lines_of bs ≡ terminated (slice_split is_feed bs)
lines_of-terminated [] = lines-nil
lines_of-terminated (b ∷ bs) = by_test (b == 10) refl (lines_of-terminated bs)
  where
    by_test : (t : Bool) → (b == 10) ≡ t → lines_of bs ≡ terminated (slice_split is_feed bs) → lines_of (b ∷ bs) ≡ terminated (slice_split is_feed (b ∷ bs))
    by_test true e rest =
        ap (λ x. lines_of (x ∷ bs)) (eqb-true b 10 e) ∙ lines_of-feed bs ∙ ap (λ t. (10 ∷ []) ∷ t) rest
        ∙ sym (terminated-feed (slice_split is_feed bs) (some_part bs)) ∙ ap terminated (sym (slice_split-cons_yes is_feed b bs e))
    by_test false e rest =
        lines_of-other b bs e ∙ ap (onto_first b) rest
        ∙ sym (terminated-split_onto b (slice_split is_feed bs) (some_part bs)) ∙ ap terminated (sym (slice_split-cons_no is_feed b bs e))

-- no part holds a line feed
abbrev free : List ℕ → Bool
free part = not (list_any is_feed part)

free-onto : (b : ℕ) (ps : List (List ℕ)) → (b == 10) ≡ false → list_all free ps ≡ true → list_all free (onto_first b ps) ≡ true
free-onto b [] e h = grind arith
free-onto b (p ∷ ps) e h = grind arith

free-split : (bs : List ℕ) → list_all free (slice_split is_feed bs) ≡ true
free-split [] = refl
free-split (b ∷ bs) = by_test (b == 10) refl (free-split bs)
  where
    by_test : (t : Bool) → (b == 10) ≡ t → list_all free (slice_split is_feed bs) ≡ true → list_all free (slice_split is_feed (b ∷ bs)) ≡ true
    by_test true e rest = ap (list_all free) (slice_split-cons_yes is_feed b bs e) ∙ rest
    by_test false e rest = ap (list_all free) (slice_split-cons_no is_feed b bs e) ∙ free-onto b (slice_split is_feed bs) e rest

-- a part with no feed is left as it is
whole : (x : List ℕ) → free x ≡ true → without_terminator x ≡ x
whole [] h = refl
whole (b ∷ x) h = by_test (slice_index (b ∷ x) (length (b ∷ x) - 1) == 10) refl
  where
    by_test : (t : Bool) → (slice_index (b ∷ x) (length (b ∷ x) - 1) == 10) ≡ t → without_terminator (b ∷ x) ≡ b ∷ x
    by_test true e =
        let last : length (b ∷ x) - 1 < length (b ∷ x) = omega arith in
        let found : list_any is_feed (b ∷ x) ≡ true = list_any_at is_feed (b ∷ x) (length (b ∷ x) - 1) 0 last e in
        absurd (cc (found, h))
    by_test false e =
        ap (λ t. cond t (no_cr (take (length (b ∷ x) - 1) (b ∷ x))) (b ∷ x)) (ap (λ t. nat_lt 0 (length (b ∷ x)) && t) e ∙ and_false (nat_lt 0 (length (b ∷ x))))

no_cr-strip : (x : List ℕ) → no_cr x ≡ strip_carriage_return x
no_cr-strip [] = refl
no_cr-strip (b ∷ x) =
    ap (λ t. cond (t && (slice_index (b ∷ x) (length (b ∷ x) - 1) == 13)) (take (length (b ∷ x) - 1) (b ∷ x)) (b ∷ x)) (lt-ltb 0 (length (b ∷ x)) (omega arith))

-- one with a feed behind it loses the feed and a carriage return before it
cut : (x : List ℕ) → without_terminator (x ++ 10 ∷ []) ≡ strip_carriage_return x
cut x =
    let whole = x ++ 10 ∷ [] in
    let last : length whole - 1 ≡ length x = omega (arith, length-append x (10 ∷ [])) in
    let some : nat_lt 0 (length whole) ≡ true = lt-ltb 0 (length whole) (omega (arith, length-append x (10 ∷ []))) in
    let feed : (slice_index whole (length whole - 1) == 10) ≡ true =
    ap (λ i. slice_index whole i == 10) last ∙ ap (λ b. b == 10) (get_or-append_seam x 10 [] 0) in
    ap (λ t. cond (t && (slice_index whole (length whole - 1) == 10)) (no_cr (take (length whole - 1) whole)) whole) some
    ∙ ap (λ t. cond t (no_cr (take (length whole - 1) whole)) whole) feed
    ∙ ap (λ i. no_cr (take i whole)) last ∙ ap no_cr (take-append_seam x (10 ∷ [])) ∙ no_cr-strip x

trimmed-last : (x : List ℕ) → free x ≡ true → (t : Bool) → map without_terminator (if t then [] else x ∷ []) ≡ (if t then [] else x ∷ [])
trimmed-last x h true = refl
trimmed-last x h false = ap (λ l. l ∷ []) (whole x h)

trimmed : (ps : List (List ℕ)) → list_all free ps ≡ true → map without_terminator (terminated ps) ≡ lines_of_parts ps
trimmed [] h = refl
trimmed (x ∷ []) h = trimmed-last x (and-left _ _ h) (length x == 0)
trimmed (x ∷ y ∷ more) h =
    ap (λ l. l ∷ map without_terminator (terminated (y ∷ more))) (cut x) ∙ ap (λ ls. strip_carriage_return x ∷ ls) (trimmed (y ∷ more) (and-right _ _ h))

-- each line without its end
pub lines-is : (bs : List ℕ) → map without_terminator (lines_of bs) ≡ lines bs
lines-is bs = ap (map without_terminator) (lines_of-terminated bs) ∙ trimmed (slice_split is_feed bs) (free-split bs)
