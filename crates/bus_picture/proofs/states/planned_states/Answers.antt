use Rattle.std.proofs.Common.{false, ap, ◌∙◌}
use Rattle.bus_picture.specs.States.{state_of}
use Rattle.bus_picture.proofs.RangeLemmas.{mapped_more}
use Rattle.bus_picture.proofs.states.planned_states.Goals as goal

pub loop-place-preserved : goal.loop-place-preserved
loop-place-preserved c =
    let state = state_of c.args.plan.now c.args.bound.now false in
    mapped_more state c.loop-place.place c.loop-place.states.items c.push.new.self.items c.state_of.result
    c.loop-place.invariant (c.state_of.ensures ∙ ap state c.new.ensures) c.in_ok-push.ensures.items
