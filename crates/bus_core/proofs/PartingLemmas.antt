-- What a core's counts and phases say once nothing more is asked of it.
use Rattle.std.proofs.Common.{◌≡◌, ℕ, ◌+◌, ◌<◌, Bool, true, false, ◌||◌, List, [], ◌∷◌, refl, sym, ap, ◌∙◌, arith, lt-ltb, true≢false, zero-add}
use Rattle.std.specs.Prelude.{nat_lt, count_by, if◌then◌else◌}
use Rattle.std.specs.List.{list_any}
use Rattle.std.proofs.lemmas.List.Sums.{sum_by-cons}
use Rattle.bus_core.specs.declared.phase.Phase.{Phase}
use Rattle.bus_core.specs.declared.phase.Phase.TheVariants.{Fresh, Begun, InFlight, Bound, Failed}
use Rattle.bus_core.specs.RefinementPhase.{begun_in, settled_in}

pub counted_any : {X : Type 0} (test : X → Bool) (xs : List X) → nat_lt 0 (count_by test xs) ≡ list_any test xs
counted_any test [] = refl
counted_any test (x ∷ xs) = at (counted_any test xs) (test x) refl
  where
    weight : (b : Bool) → test x ≡ b → count_by test (x ∷ xs) ≡ (if b then 1 else 0) + count_by test xs
    weight b is = sum_by-cons (λ y. if test y then 1 else 0) x xs ∙ ap {B = ℕ} (λ (c : Bool). (if c then 1 else 0) + count_by test xs) is

    at : nat_lt 0 (count_by test xs) ≡ list_any test xs → (b : Bool) → test x ≡ b → nat_lt 0 (count_by test (x ∷ xs)) ≡ list_any test (x ∷ xs)
    at more true is =
        let some-passes : 0 < count_by test (x ∷ xs) = omega (arith, weight true is) in
        lt-ltb 0 (count_by test (x ∷ xs)) some-passes ∙ sym (ap (λ (b : Bool). b || list_any test xs) is)
    at more false is =
        let same : count_by test (x ∷ xs) ≡ count_by test xs = weight false is ∙ zero-add (count_by test xs) in
        ap (λ (n : ℕ). nat_lt 0 n) same ∙ more ∙ sym (ap (λ (b : Bool). b || list_any test xs) is)

pub settled_begun : (phase : Phase) → settled_in phase ≡ true → begun_in phase ≡ true
settled_begun Fresh e = absurd (true≢false (sym e))
settled_begun Begun e = absurd (true≢false (sym e))
settled_begun (InFlight attempt settled) e = refl
settled_begun (Bound place) e = refl
settled_begun Failed e = refl
