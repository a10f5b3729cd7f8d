-- Paths that are looked up, one more at a time.
use Rattle.std.proofs.Common.{◌≡◌, ◌∙◌, ap, sym, refl, ℕ, ◌+◌, ◌<◌, ◌≤◌, Bool, true, false, ◌||◌, List, [], ◌∷◌, ◌++◌, length, get_or, drop, append-nil}
use Rattle.std.proofs.lemmas.List.{at_drop_more, at_drop_all}
use Rattle.bus_plan.specs.PlanPaths.{is_among}
use Rattle.bus_plan.proofs.PathLemmas.{is_among-append}

-- both lists have the same paths
abbrev pub AreSame : List (List ℕ) → List (List ℕ) → Type 0
AreSame paths others = (q : List ℕ) → is_among q paths ≡ is_among q others

among-later : (a b r : Bool) → ((a || b) || r) ≡ (b || (a || r))
among-later true true r = refl
among-later true false r = refl
among-later false true r = refl
among-later false false r = refl

-- a path that is added is none of those that are left
pub paths-more : {A : Type 0} (paths : List A → List (List ℕ)) (xs : List A) (i : ℕ) (x : A) (before after all : List (List ℕ)) (path : List ℕ)
    → i < length xs → x ≡ get_or xs i x → paths (x ∷ drop (i + 1) xs) ≡ path ∷ paths (drop (i + 1) xs) → AreSame after (path ∷ before)
    → AreSame (before ++ paths (drop i xs)) all → AreSame (after ++ paths (drop (i + 1) xs)) all
paths-more paths xs i x before after all path h e first is left q =
    let rest = paths (drop (i + 1) xs) in
    let next : paths (drop i xs) ≡ path ∷ rest = at_drop_more paths xs i x h ∙ ap (λ y. paths (y ∷ drop (i + 1) xs)) (sym e) ∙ first in
    is_among-append q after rest ∙ ap (λ t. t || is_among q rest) (is q) ∙ among-later _ (is_among q before) (is_among q rest)
    ∙ sym (is_among-append q before (path ∷ rest)) ∙ ap (λ ps. is_among q (before ++ ps)) (sym next) ∙ left q

pub paths-all : {A : Type 0} (paths : List A → List (List ℕ)) (xs : List A) (i : ℕ) (found all : List (List ℕ)) → paths [] ≡ [] → length xs ≤ i
    → AreSame (found ++ paths (drop i xs)) all → AreSame found all
paths-all paths xs i found all none h left q =
    ap (is_among q) (sym (append-nil found)) ∙ ap (λ ps. is_among q (found ++ ps)) (sym none)
    ∙ sym (at_drop_all (λ ys. is_among q (found ++ paths ys)) xs i h) ∙ left q
