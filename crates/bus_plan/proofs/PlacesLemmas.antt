-- Places, each once.
use Rattle.std.proofs.Common.{◌≡◌, ◌∙◌, ap, sym, refl, ℕ, Bool, true, false, not, ◌||◌, List, [], ◌∷◌, ◌++◌}
use Rattle.std.specs.Prelude.{if◌then◌else◌, ◌==◌}
use Rattle.std.specs.List.{list_any, AllByRecursion, IsDistinct}
use Rattle.std.proofs.lemmas.Bool.{eqb-true}
use Rattle.std.proofs.lemmas.List.Folds.{list_any-append}
use Rattle.std.proofs.lemmas.Map.Keys.{IsDistinct-head, IsDistinct-tail}
use Rattle.indexmap.specs.IndexSet.{insert_key}
use Rattle.bus_plan.specs.Private.Places.{is_in, are_once}
use Rattle.bus_plan.proofs.BoolLemmas.{and_both, or_false, or-shift, or-again}

-- what holds of a place that is there
any-there : (test : ℕ → Bool) (place : ℕ) (places : List ℕ) → is_in place places ≡ true → (list_any test places || test place) ≡ list_any test places
any-there test place [] there = absurd (cc)
any-there test place (p ∷ ps) there = by (place == p) refl (any-there test place ps)
  where
    by : (t : Bool) → (place == p) ≡ t → (is_in place ps ≡ true → (list_any test ps || test place) ≡ list_any test ps)
        → ((test p || list_any test ps) || test place) ≡ (test p || list_any test ps)
    by true e later = ap (λ q. (test p || list_any test ps) || test q) (eqb-true place p e) ∙ or-again (test p) (list_any test ps)
    by false e later =
        let rest : is_in place ps ≡ true = sym (ap (λ t. t || is_in place ps) e) ∙ there in
        or-shift (test p) (list_any test ps) (test place) ∙ ap (λ t. test p || t) (later rest)

pub any-insert : (test : ℕ → Bool) (places : List ℕ) (place : ℕ) → list_any test (insert_key ◌==◌ places place) ≡ (list_any test places || test place)
any-insert test places place = by (is_in place places) refl
  where
    by : (t : Bool) → is_in place places ≡ t → list_any test (insert_key ◌==◌ places place) ≡ (list_any test places || test place)
    by true e = ap (λ t. list_any test (if t then places else places ++ place ∷ [])) e ∙ sym (any-there test place places e)
    by false e =
        ap (λ t. list_any test (if t then places else places ++ place ∷ [])) e ∙ list_any-append test places (place ∷ [])
        ∙ ap (λ t. list_any test places || t) (or_false (test place))

-- no place stands twice in a set
absent-of : (x : ℕ) (xs : List ℕ) → AllByRecursion (λ y. (x == y) ≡ false) xs → is_in x xs ≡ false
absent-of x [] others = refl
absent-of x (y ∷ ys) others = ap (λ t. t || is_in x ys) others.0 ∙ absent-of x ys others.1

pub once-of : (xs : List ℕ) → IsDistinct ◌==◌ xs → are_once xs ≡ true
once-of [] distinct = refl
once-of (x ∷ xs) distinct =
    and_both _ _ (ap not (absent-of x xs (IsDistinct-head ◌==◌ x xs distinct))) (once-of xs (IsDistinct-tail ◌==◌ x xs distinct))
