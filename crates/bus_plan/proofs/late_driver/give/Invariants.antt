use Rattle.std.specs.Vec.Iter.{into_iter_items}
use Rattle.bus_plan.proofs.GainLemmas.{IsGivenTo}
use Rattle.bus_plan.proofs.late_driver.give.Given as goal

-- what is left to be given makes what all gains make
abbrev pub invariant-loop-gain : goal.invariant-loop-gain
invariant-loop-gain l =
    (goal.iterator-loop-gain).can_next l.gain-iterator ×
    (goal.iterator-loop-gain).is_finite l.gain-iterator ×
    IsGivenTo l.fn.devices.items l.fn.gains.items (into_iter_items l.gain-iterator) l.devices.items
