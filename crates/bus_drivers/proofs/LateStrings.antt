-- The strings of a value that a driver may list, one by one.
use Rattle.std.proofs.Common.{◌≡◌, ◌∙◌, ap, sym, ℕ, true, false, List, [], ◌∷◌, ◌++◌, append_assoc, append-nil}
use Rattle.std.specs.Prelude.{filter, if◌then◌else◌}
use Rattle.std.proofs.lemmas.List.Elements.{filter-append}
use Rattle.bus_plan.specs.Plan.{is_compatible}

pub string-dropped : (before : List (List ℕ)) (string : List ℕ) → is_compatible string ≡ false → before ≡ before ++ filter is_compatible (string ∷ [])
string-dropped before string e = sym (ap (λ t. before ++ (if t then string ∷ [] else [])) e ∙ append-nil before)

pub string-kept : (before : List (List ℕ)) (string : List ℕ) → is_compatible string ≡ true → before ++ string ∷ [] ≡ before ++ filter is_compatible (string ∷ [])
string-kept before string e = sym (ap (λ t. before ++ (if t then string ∷ [] else [])) e)

-- those so far and those of the strings that are left are all
pub listed-more : (before after all more : List (List ℕ)) (string : List ℕ) (left : List (List ℕ)) → before ++ filter is_compatible left ≡ all → left ≡ string ∷ more
    → after ≡ before ++ filter is_compatible (string ∷ []) → after ++ filter is_compatible more ≡ all
listed-more before after all more string left walk is put =
    ap (λ ss. ss ++ filter is_compatible more) put ∙ append_assoc before (filter is_compatible (string ∷ [])) (filter is_compatible more)
    ∙ ap (λ ss. before ++ ss) (sym (filter-append is_compatible (string ∷ []) more)) ∙ ap (λ ss. before ++ filter is_compatible ss) (sym is) ∙ walk

pub listed-all : (before all left : List (List ℕ)) → before ++ filter is_compatible left ≡ all → left ≡ [] → before ≡ all
listed-all before all left walk none = sym (append-nil before) ∙ ap (λ ss. before ++ filter is_compatible ss) (sym none) ∙ walk
