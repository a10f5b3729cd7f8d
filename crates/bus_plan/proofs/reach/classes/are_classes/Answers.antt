use Rattle.std.proofs.Common.{◌∙◌, ap, sym, List, ℕ, nat_le}
use Rattle.std.specs.List.{list_all}
use Rattle.bus_plan.specs.Plan.{suppliers_of}
use Rattle.bus_plan.specs.Reach.Private.Walk.{class_of}
use Rattle.bus_plan.proofs.ReachLemmas.ClassLemmas.{order_more}
use Rattle.bus_plan.proofs.reach.classes.are_classes.Goals as goal

pub loop-place-preserved : goal.loop-place-preserved
loop-place-preserved c =
    let plan = c.args.plan.now in
    let classes = c.args.classes.now in
    let place = c.loop-place.place in
    order_more plan classes place c.loop-place.invariant
    (ap (λ (ds : List ℕ). list_all (λ d. nat_le (class_of classes place) (class_of classes d)) ds) (sym (c.suppliers-suppliers.ensures ∙ ap (suppliers_of plan) c.new.ensures))
    ∙ sym c.stands_before.ensures ∙ c.if-not-stands_before.false)
