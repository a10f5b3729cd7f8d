use Rattle.std.proofs.Common.{ℕ, Bool, List, ap, ◌∙◌}
use Rattle.bus_plan.specs.Plan.{PlannedDevice}
use Rattle.bus_links.specs.Links.{flag_at}
use Rattle.bus_picture.specs.States.{state_of}
use Rattle.bus_picture.proofs.RangeLemmas.{mapped_more}
use Rattle.bus_picture.proofs.states.linked_states.Goals as goal

pub loop-place-preserved : goal.loop-place-preserved
loop-place-preserved c =
    let linked = c.args.linked.now in
    let bound = c.args.bound.now in
    let state = λ (d : ℕ). state_of linked.plan bound (flag_at linked.early d) d in
    mapped_more state c.loop-place.place c.loop-place.states.items c.push.new.self.items c.state_of.result
    c.loop-place.invariant
    (c.state_of.ensures ∙ ap (λ (plan : List PlannedDevice). state_of plan bound c.is_early.result c.new-device.result) c.plan-plan.ensures
    ∙ ap (λ (early : Bool). state_of linked.plan bound early c.new-device.result) c.is_early.ensures ∙ ap state c.new-device.ensures)
    c.in_ok-push.ensures.items
