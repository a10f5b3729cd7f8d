-- In classes walks both ways find what a device takes and is taken by.
use Rattle.std.proofs.Common.{◌≡◌, ◌⊎◌, inl, inr, ⊎_elim, ℕ, ◌+◌, ◌<◌, ◌≤◌, Bool, true, false, not, nat_lt, nat_le, List, length, get_or, replicate, refl, sym, ap, ◌∙◌, subst, arith}
use Rattle.std.specs.Prelude.{◌||◌, ◌&&◌, ◌↔◌}
use Rattle.std.specs.List.{list_all}
use Rattle.std.proofs.lemmas.Bool.{cases_eq}
use Rattle.std.proofs.lemmas.Bool.Decides.{nat_tests}
use Rattle.std.proofs.lemmas.List.{length-replicate}
use Rattle.dt_tree.proofs.Places.{both}
use Rattle.bus_plan.specs.Plan.{PlannedDevice, suppliers_of}
use Rattle.bus_plan.specs.declared.reach.direction.Direction.{Direction}
use Rattle.bus_plan.specs.declared.reach.direction.Direction.TheVariants.{Suppliers, Consumers}
use Rattle.bus_plan.specs.Reach.Takes.{Takes}
use Rattle.bus_plan.specs.Reach.Components.{TakeEachOther}
use Rattle.bus_plan.specs.Reach.Reached.{is_in, AreFollowers}
use Rattle.bus_plan.specs.Reach.Private.Walk.{class_of, IsWalked}
use Rattle.bus_plan.specs.Reach.Private.Classes.{AreInOrderBelow, AreClasses}
use Rattle.bus_plan.proofs.ReachLemmas.InLemmas.{some_or, or_left, or_right, list_all_in}
use Rattle.bus_plan.proofs.ReachLemmas.StampLemmas.{zero_at}
use Rattle.bus_plan.proofs.ReachLemmas.TakesLemmas.{closed_by, consumer_in}

lt_true : (a b : ℕ) → a < b → nat_lt a b ≡ true
lt_true a b h = grind (arith, nat_tests)

le_true : (a b : ℕ) → a ≤ b → nat_le a b ≡ true
le_true a b h = grind (arith, nat_tests)

true_lt : (a b : ℕ) → nat_lt a b ≡ true → a < b
true_lt a b h = grind (arith, nat_tests)

true_le : (a b : ℕ) → nat_le a b ≡ true → a ≤ b
true_le a b h = grind (arith, nat_tests)

no_both : (t : Bool) → t ≡ true → t ≡ false → ⊥
no_both true is not = let bad : true ≡ false = not in cc bad
no_both false is not = let bad : false ≡ true = is in cc bad

and_true : (a b : Bool) → a ≡ true → b ≡ true → (a && b) ≡ true
and_true true b first second = second
and_true false b first second = absurd (let bad : false ≡ true = first in cc bad)

not_true : (t : Bool) → not t ≡ true → t ≡ false
not_true true e = absurd (let bad : false ≡ true = e in cc bad)
not_true false e = refl

module _ (plan : List PlannedDevice) (classes : List ℕ) (are : AreClasses plan classes) where
  -- what is taken stands in no earlier class
  later : (a b : ℕ) → Takes plan a b → class_of classes a ≤ class_of classes b
  later a b takes =
      let set : ℕ → Bool = λ (x : ℕ). nat_le (class_of classes a) (class_of classes x) in
      true_le (class_of classes a) (class_of classes b)
      (takes set (le_true (class_of classes a) (class_of classes a) (omega arith))
      (closed_by plan set (λ d s has e.
      let first : class_of classes a ≤ class_of classes d = true_le (class_of classes a) (class_of classes d) has in
      let then : class_of classes d ≤ class_of classes s = are.order d s e in
      le_true (class_of classes a) (class_of classes s) (omega arith))))

  pub one_class : (a b : ℕ) → TakeEachOther plan a b → class_of classes b ≡ class_of classes a
  one_class a b e =
      let up : class_of classes a ≤ class_of classes b = later a b e.0 in
      let down : class_of classes b ≤ class_of classes a = later b a e.1 in
      omega arith

  pub taken_found : (root : ℕ) (found : List ℕ) → IsWalked Suppliers plan classes root found → (d : ℕ) → class_of classes d ≡ class_of classes root → Takes plan root d → is_in found d ≡ true
  taken_found root found w d same takes =
      ⊎_elim (λ is. is) (λ past. absurd (let lt : class_of classes root < class_of classes d = true_lt (class_of classes root) (class_of classes d) past in omega arith))
      (some_or (is_in found d) (nat_lt (class_of classes root) (class_of classes d)) (takes set (or_left (is_in found root) (nat_lt (class_of classes root) (class_of classes root)) w.began) (closed_by plan set step)))
    where
      set : ℕ → Bool
      set x = is_in found x || nat_lt (class_of classes root) (class_of classes x)

      step : (x s : ℕ) → set x ≡ true → is_in (suppliers_of plan x) s ≡ true → set s ≡ true
      step x s has e = ⊎_elim of_found of_past (some_or (is_in found x) (nat_lt (class_of classes root) (class_of classes x)) has) where
        up : class_of classes x ≤ class_of classes s
        up = are.order x s e

        of_past : nat_lt (class_of classes root) (class_of classes x) ≡ true → set s ≡ true
        of_past past =
            let lt : class_of classes root < class_of classes x = true_lt (class_of classes root) (class_of classes x) past in
            let le : class_of classes x ≤ class_of classes s = up in
            or_right (is_in found s) (nat_lt (class_of classes root) (class_of classes s)) (lt_true (class_of classes root) (class_of classes s) (omega arith))

        of_found : is_in found x ≡ true → set s ≡ true
        of_found inside = by (cases_eq (class_of classes s) (class_of classes root)) where
          by : (class_of classes s ≡ class_of classes root) ⊎ (class_of classes s ≡ class_of classes root → ⊥) → set s ≡ true
          by (inl is) = or_left (is_in found s) (nat_lt (class_of classes root) (class_of classes s)) (w.closed x inside s e is)
          by (inr other) =
              let here : class_of classes x ≡ class_of classes root = (w.each x inside).1 in
              let le : class_of classes x ≤ class_of classes s = up in
              or_right (is_in found s) (nat_lt (class_of classes root) (class_of classes s)) (lt_true (class_of classes root) (class_of classes s) (omega arith))

  pub taking_found : (root : ℕ) (found : List ℕ) → IsWalked Consumers plan classes root found → (d : ℕ) → class_of classes d ≡ class_of classes root → Takes plan d root → is_in found d ≡ true
  taking_found root found w d same takes = by (is_in found d) refl where
    set : ℕ → Bool
    set x = not (is_in found x) && nat_le (class_of classes root) (class_of classes x)

    step : (x s : ℕ) → set x ≡ true → is_in (suppliers_of plan x) s ≡ true → set s ≡ true
    step x s has e = of (is_in found s) refl where
      parts : (not (is_in found x) ≡ true) × (nat_le (class_of classes root) (class_of classes x) ≡ true)
      parts = both (not (is_in found x)) (nat_le (class_of classes root) (class_of classes x)) has

      low : class_of classes root ≤ class_of classes x
      low = true_le (class_of classes root) (class_of classes x) parts.1

      up : class_of classes x ≤ class_of classes s
      up = are.order x s e

      of : (t : Bool) → is_in found s ≡ t → set s ≡ true
      of true inside =
          let here : class_of classes s ≡ class_of classes root = (w.each s inside).1 in
          let first : class_of classes root ≤ class_of classes x = low in
          let then : class_of classes x ≤ class_of classes s = up in
          let on : class_of classes x ≡ class_of classes root = omega arith in
          absurd (no_both (is_in found x) (w.closed s inside x (consumer_in plan x s e) on) (not_true (is_in found x) parts.0))
      of false outside =
          let first : class_of classes root ≤ class_of classes x = low in
          let then : class_of classes x ≤ class_of classes s = up in
          and_true (not (is_in found s)) (nat_le (class_of classes root) (class_of classes s)) (ap not outside) (le_true (class_of classes root) (class_of classes s) (omega arith))

    by : (t : Bool) → is_in found d ≡ t → is_in found d ≡ true
    by true is = is
    by false is =
        let high : class_of classes root ≤ class_of classes d = omega arith in
        let starts : set d ≡ true = and_true (not (is_in found d)) (nat_le (class_of classes root) (class_of classes d)) (ap not is) (le_true (class_of classes root) (class_of classes d) high) in
        let ends : set root ≡ true = takes set starts (closed_by plan set step) in
        absurd (no_both (is_in found root) w.began (not_true (is_in found root) (both (not (is_in found root)) (nat_le (class_of classes root) (class_of classes root)) ends).0))

  -- what both walks find
  pub found_both : (root : ℕ) (taken taking : List ℕ) → IsWalked Suppliers plan classes root taken → IsWalked Consumers plan classes root taking
      → (d : ℕ) → ((is_in taking d && is_in taken d) ≡ true) ↔ TakeEachOther plan root d
  found_both root taken taking ahead behind d = (
    (λ e. let parts = both (is_in taking d) (is_in taken d) e in ((ahead.each d parts.1).2, (behind.each d parts.0).2)),
    (λ e.
        let same : class_of classes d ≡ class_of classes root = one_class root d e in
        and_true (is_in taking d) (is_in taken d) (taking_found root taking behind d same e.1) (taken_found root taken ahead d same e.0)),
  )

-- ---- one class
pub followers : (direction : Direction) (plan : List PlannedDevice) (classes : List ℕ) → AreClasses plan classes → ((a b : ℕ) → class_of classes a ≡ class_of classes b)
    → (root : ℕ) (found : List ℕ) → IsWalked direction plan classes root found → AreFollowers direction plan root found
followers Suppliers plan classes are one root found w d = ((λ e. (w.each d e).2), λ e. taken_found plan classes are root found w d (one d root) e)
followers Consumers plan classes are one root found w d = ((λ e. (w.each d e).2), λ e. taking_found plan classes are root found w d (one d root) e)

pub zero_one : (n : ℕ) (classes : List ℕ) → (let none : ℕ = 0 in classes ≡ replicate n none) → (a b : ℕ) → class_of classes a ≡ class_of classes b
zero_one n classes is a b = ap (λ (l : List ℕ). get_or l a 0) is ∙ zero_at n a ∙ sym (ap (λ (l : List ℕ). get_or l b 0) is ∙ zero_at n b)

pub zero_classes : (plan : List PlannedDevice) (classes : List ℕ) → (let none : ℕ = 0 in classes ≡ replicate (length plan) none) → AreClasses plan classes
zero_classes plan classes is = record {
  long = let none : ℕ = 0 in ap length is ∙ length-replicate (length plan) none;
  order = λ d s e. let same : class_of classes d ≡ class_of classes s = zero_one (length plan) classes is d s in omega (arith, same);
}

-- ---- classes that are tested
pub order_more : (plan : List PlannedDevice) (classes : List ℕ) (place : ℕ) → AreInOrderBelow place plan classes
    → list_all (λ d. nat_le (class_of classes place) (class_of classes d)) (suppliers_of plan place) ≡ true → AreInOrderBelow (place + 1) plan classes
order_more plan classes place below here d s under e = by (cases_eq d place) where
  by : (d ≡ place) ⊎ (d ≡ place → ⊥) → class_of classes d ≤ class_of classes s
  by (inl same) =
      let inside : is_in (suppliers_of plan place) s ≡ true = subst (λ (x : ℕ). is_in (suppliers_of plan x) s ≡ true) same e in
      let le : class_of classes place ≤ class_of classes s =
      true_le (class_of classes place) (class_of classes s) (list_all_in (λ x. nat_le (class_of classes place) (class_of classes x)) (suppliers_of plan place) here s inside) in
      subst (λ (x : ℕ). class_of classes x ≤ class_of classes s) (sym same) le
  by (inr other) = below d s (omega arith) e
