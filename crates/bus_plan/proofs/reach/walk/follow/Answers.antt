-- The walk goes on from the device that was found at its place.
use Rattle.std.proofs.Common.{◌≡◌, ◌∙◌, ap, sym, subst, List, ℕ, ◌+◌, ◌<◌, ◌≤◌, length, get_or, arith}
use Rattle.std.specs.Prelude.{All}
use Rattle.std.proofs.lemmas.List.{get_or_default}
use Rattle.bus_plan.specs.Reach.Reached.{next}
use Rattle.bus_plan.specs.Reach.Private.Walk.{class_of, with_devices, IsUnderway}
use Rattle.bus_plan.proofs.ReachLemmas.StampLemmas.{only_on}
use Rattle.bus_plan.proofs.ReachLemmas.TakesLemmas.{next_known}
use Rattle.bus_plan.proofs.ReachLemmas.WalkLemmas.{grown_long, underway_on, met_known}
use Rattle.bus_plan.proofs.reach.walk.follow.Goals as goal

pub next_to-next-requires : goal.next_to-next-requires
next_to-next-requires c =
    let found = c.walking.found.items in
    let at = c.walking.at in
    let lt : at < length found = omega (arith, c.walking-test.true, c.len.ensures) in
    let same : c.index-device.result.now ≡ get_or found at 0 = c.index-device.ensures ∙ get_or_default found at c.index-device.result.now 0 lt in
    subst (λ (d : ℕ). d < length c.args.plan.now) (sym same) (met_known c.args.direction c.args.plan.now c.args.classes.now c.args.root found at lt c.walking.invariant.underway)

pub enter_all-requires-clause-known : goal.enter_all-requires-clause-known
enter_all-requires-clause-known c =
    let plan = c.args.plan.now in
    let d = c.index-device.result.now in
    let long : length c.walking.stamps ≡ length plan = c.walking.auto.stamps ∙ c.enter.auto.stamps ∙ c.requires.long in
    subst (λ (ds : List ℕ). All (λ n. n < length c.walking.stamps) ds) (sym c.next_to-next.ensures)
    (subst (λ (m : ℕ). All (λ n. n < m) (next c.args.direction plan d)) (sym long) (next_known c.args.direction plan c.check.ensures d))

pub walking-preserved : goal.walking-preserved
walking-preserved c =
    let direction = c.args.direction in
    let plan = c.args.plan.now in
    let classes = c.args.classes.now in
    let root = c.args.root in
    let found = c.walking.found.items in
    let at = c.walking.at in
    let after = c.enter_all.new.found.items in
    let lt : at < length found = omega (arith, c.walking-test.true, c.len.ensures) in
    let same : c.index-device.result.now ≡ get_or found at 0 = c.index-device.ensures ∙ get_or_default found at c.index-device.result.now 0 lt in
    let is : after ≡ with_devices classes (class_of classes root) found (next direction plan (get_or found at 0)) =
    c.in_ok-enter_all.ensures.found ∙ ap (λ (k : ℕ). with_devices classes k found c.next_to-next.result.now) c.walking.invariant.class
    ∙ ap (λ (ds : List ℕ). with_devices classes (class_of classes root) found ds) (c.next_to-next.ensures ∙ ap (next direction plan) same) in
    let long : length found ≤ length (with_devices classes (class_of classes root) found (next direction plan (get_or found at 0))) =
    grown_long classes (class_of classes root) (next direction plan (get_or found at 0)) found in
    record {
      class = c.walking.invariant.class;
      underway = subst (λ (f : List ℕ). IsUnderway direction plan classes root f (at + 1)) (sym is) (underway_on direction plan classes root c.check.ensures found at lt c.walking.invariant.underway);
      at = subst (λ (f : List ℕ). at + 1 ≤ length f) (sym is) (omega arith);
      stamped = c.in_ok-enter_all.ensures.stamped;
      only = only_on c.args.stamp c.args.stamps.now c.walking.stamps c.enter_all.new.stamps c.walking.invariant.only c.in_ok-enter_all.ensures.only;
      left = c.in_ok-enter_all.ensures.left ∙ c.walking.invariant.left;
    }
