-- A look is noted in its supplier's place.
use Rattle.std.proofs.Common.{◌≡◌, ◌≢◌, ℕ, zero, suc, ◌<◌, ◌≤◌, Bool, List, [], ◌∷◌, set, Option, Some, None, refl, sym, ap, ◌∙◌, subst, ⊎_elim, arith, eq-eqb, ne_eqb}
use Rattle.std.specs.Prelude.{slice_get, if◌then◌else◌, AllPairs}
use Rattle.std.proofs.lemmas.Bool.{cases_lt}
use Rattle.std.proofs.lemmas.Option.{get_or_from_slice_get, slice_get_within}
use mathlib.Core.Logic.{dite}
use native.Mathlib.Decide.{ℕ_discrete}
use Rattle.bus_plan.specs.Plan.{suppliers_of}
use Rattle.bus_board.proofs.Tied.{Carried, map_get}
use Rattle.bus_board.specs.Private.Looks.{IsOnlyAt, noted, noted_looks}
use Rattle.bus_board.specs.Views.{last_look}
use Rattle.bus_board.specs.declared.flight.Open.{Open}
use Rattle.bus_board.specs.declared.view.View.{View}

abbrev Look : Type 0
Look = ℕ × Option Bool

noted-other : (s : ℕ) (b : Bool) (x : Look) → x.0 ≢ s → noted s b x ≡ x
noted-other s b x other = ap (λ (c : Bool). if c then (x.0, Some b) else x) (ne_eqb x.0 s other)

-- a list without the supplier stays
noted-none : (s : ℕ) (b : Bool) (xs : List Look) → ((i : ℕ) (x : Look) → slice_get xs i ≡ Some x → x.0 ≢ s) → noted_looks s b xs ≡ xs
noted-none s b [] none-there = refl
noted-none s b (x ∷ xs) none-there = λ i. noted-other s b x (none-there 0 x refl) i ∷ noted-none s b xs (λ k y e. none-there (suc k) y e) i

pub noted_set : (xs : List Look) (place s : ℕ) (b : Bool) → IsOnlyAt xs place s → set xs place (s, Some b) ≡ noted_looks s b xs
noted_set [] place s b only = absurd (let none-there : (let o : Option Look = None in o ≡ Some (s, only.0.0)) = only.0.1 in cc)
noted_set (x ∷ xs) zero s b only =
    let is : Some x ≡ Some (s, only.0.0) = only.0.1 in
    let same : x.0 ≡ s = let t : x ≡ (s, only.0.0) = cc in ap (λ (y : Look). y.0) t in
    let here : (s, Some b) ≡ noted s b x = sym (ap (λ (c : Bool). if c then (x.0, Some b) else x) (eq-eqb x.0 s same) ∙ ap (λ (k : ℕ). (k, Some b)) same) in
    let rest : noted_looks s b xs ≡ xs = noted-none s b xs (λ k y e t. let z : suc k ≡ 0 = only.1 (suc k) y e t in absurd (omega (arith, z))) in
    λ i. here i ∷ sym rest i
noted_set (x ∷ xs) (suc place) s b only =
    let other : x.0 ≢ s = λ t. let z : 0 ≡ suc place = only.1 0 x refl t in absurd (omega (arith, z)) in
    let more : IsOnlyAt xs place s = (only.0, λ k y e t. let z : suc k ≡ suc place = only.1 (suc k) y e t in omega (arith, z)) in
    λ i. sym (noted-other s b x other) i ∷ noted_set xs place s b more i

-- a device stands once in a list of differing devices
one_place : (ss : List ℕ) (i j s : ℕ) → AllPairs (λ (a b : ℕ). a ≢ b) ss → slice_get ss i ≡ Some s → slice_get ss j ≡ Some s → i ≡ j
one_place ss i j s apart here there = dite (ℕ_discrete i j)
    (λ same. same)
    (λ other. absurd (⊎_elim
    (λ (lt : i < j). apart i j 0 lt (slice_get_within ss j s there) (get_or_from_slice_get ss i s 0 here ∙ sym (get_or_from_slice_get ss j s 0 there)))
    (λ (le : j ≤ i). apart j i 0 (omega (arith, le, other)) (slice_get_within ss i s here) (get_or_from_slice_get ss j s 0 there ∙ sym (get_or_from_slice_get ss i s 0 here)))
    (cases_lt i j)))

-- a supplier has one place among a flight's looks
pub only_at : (v : View) (x : Open) (t : Carried v x) (place s : ℕ) (r : Option Bool) → AllPairs (λ (a b : ℕ). a ≢ b) (suppliers_of v.plan t.flight.device)
    → slice_get x.looks.items place ≡ Some (s, r) → IsOnlyAt x.looks.items place s
only_at v x t place s r apart here =
    let ss = suppliers_of v.plan t.flight.device in
    let g : ℕ → Look = λ s. (s, last_look t.flight.looks s) in
    let supplier : (i : ℕ) (y : Look) → slice_get x.looks.items i ≡ Some y → slice_get ss i ≡ Some y.0 = λ i y e.
    let m = map_get g ss i y (subst (λ (l : List Look). slice_get l i ≡ Some y) t.looks e) in
    m.1 ∙ ap (λ (k : ℕ). Some k) (ap (λ (z : Look). z.0) m.2) in
    ((r, here), λ i y e same. one_place ss i place s apart (supplier i y e ∙ ap (λ (k : ℕ). Some k) same) (supplier place (s, r) here))
