use Rattle.std.proofs.Common.{arith}
use Rattle.bus_core.specs.CoreState.{with_names}
use Rattle.bus_core.proofs.SoundLemmas.{first-sound_at, first-view_at}
use Rattle.bus_core.proofs.CountedLemmas.{first-counted_at}
use Rattle.bus_core.proofs.state.Core.new.Goals as goal

pub returns-in-Ok : goal.returns-in-Ok
returns-in-Ok c =
    let kept = c.in-Ok
    in λ i. record {
      plan = c.args.plan;
      state = with_names (first-view_at c.args.plan kept.phases.items kept.history.items kept.ensures.phases kept.ensures.history i) (c.new-registered.ensures i);
    }

pub invariant_of-result : goal.invariant_of-result
invariant_of-result c =
    let kept = c.in-Ok
    in record {
      sound = first-sound_at c.args.plan kept.phases.items kept.history.items kept.ensures.phases kept.ensures.history;
      counted = first-counted_at c.args.plan kept.phases.items kept.history.items kept.missing.items kept.due
          kept.ensures.phases kept.ensures.history kept.ensures.missing kept.ensures.places kept.ensures.due;
      room = omega (arith, kept.ensures.room);
    }
