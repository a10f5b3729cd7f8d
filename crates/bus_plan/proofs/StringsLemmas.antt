-- The fields of a line are strings that a driver may list.
use Rattle.std.proofs.Common.{◌≡◌, ◌≢◌, ◌∙◌, ap, sym, refl, ℕ, ◌≤◌, Bool, true, false, ◌&&◌, ◌||◌, ◌==◌, List, [], ◌∷◌, arith}
use Rattle.std.specs.Prelude.{filter, if◌then◌else◌, nat_le}
use Rattle.std.specs.List.{list_all, slice_split, onto_first}
use Rattle.std.proofs.lemmas.Bool.{leb-true, le-leb}
use Rattle.std.proofs.lemmas.List.Splits.{slice_split-cons_yes, slice_split-cons_no}
use Rattle.bus_plan.specs.Lines.{is_line_byte, is_line, is_blank, is_filled, fields}
use Rattle.bus_plan.specs.Plan.{is_string_byte, is_compatible}
use Rattle.bus_plan.proofs.BoolLemmas.{and-left, and-right, and_both, or-left, or-right}

-- a byte of a line that is no blank
string-byte : (b : ℕ) → is_line_byte b ≡ true → is_blank b ≡ false → is_string_byte b ≡ true
string-byte b line blank =
    let space : (b == 32) ≡ false = or-left _ _ blank in
    let tab : (b == 9) ≡ false = or-right (b == 32) (b == 9) blank in
    let printed : (nat_le 32 b && nat_le b 126) ≡ true = ap (λ t. t || (nat_le 32 b && nat_le b 126)) (sym tab) ∙ line in
    let above : 32 ≤ b = leb-true 32 b (and-left _ _ printed) in
    let other : b ≢ 32 = λ e. absurd (cc (ap (λ x. x == 32) e, space)) in
    and_both _ _ (le-leb 33 b (omega (arith, other))) (and-right (nat_le 32 b) _ printed)

-- the parts between blanks have no others
abbrev are_strings : List (List ℕ) → Bool
are_strings parts = list_all (λ part. list_all is_string_byte part) parts

strings-onto : (b : ℕ) (parts : List (List ℕ)) → is_string_byte b ≡ true → are_strings parts ≡ true → are_strings (onto_first b parts) ≡ true
strings-onto b [] h all = and_both _ _ (and_both _ _ h refl) refl
strings-onto b (p ∷ ps) h all = and_both _ _ (and_both _ _ h (and-left _ _ all)) (and-right (list_all is_string_byte p) _ all)

strings-split : (line : List ℕ) → is_line line ≡ true → are_strings (slice_split is_blank line) ≡ true
strings-split [] h = refl
strings-split (b ∷ line) h = by_test (is_blank b) refl (strings-split line (and-right _ _ h))
  where
    by_test : (t : Bool) → is_blank b ≡ t → are_strings (slice_split is_blank line) ≡ true → are_strings (slice_split is_blank (b ∷ line)) ≡ true
    by_test true e rest = ap are_strings (slice_split-cons_yes is_blank b line e) ∙ rest
    by_test false e rest =
        ap are_strings (slice_split-cons_no is_blank b line e)
        ∙ strings-onto b (slice_split is_blank line) (string-byte b (and-left _ _ h) e) rest

filled-strings : (parts : List (List ℕ)) → are_strings parts ≡ true → list_all is_compatible (filter is_filled parts) ≡ true
filled-strings [] h = refl
filled-strings (p ∷ ps) h = by_test (is_filled p) refl (filled-strings ps (and-right (list_all is_string_byte p) _ h))
  where
    by_test : (t : Bool) → is_filled p ≡ t → list_all is_compatible (filter is_filled ps) ≡ true → list_all is_compatible (if t then p ∷ filter is_filled ps else filter is_filled ps) ≡ true
    by_test true e rest = and_both _ _ (and_both _ _ e (and-left _ _ h)) rest
    by_test false e rest = rest

pub all-compatible : (line : List ℕ) → is_line line ≡ true → list_all is_compatible (fields line) ≡ true
all-compatible line h = filled-strings (slice_split is_blank line) (strings-split line h)
