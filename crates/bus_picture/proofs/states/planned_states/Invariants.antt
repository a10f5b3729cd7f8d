use Rattle.std.proofs.Common.{◌≡◌, false, map}
use Rattle.std.specs.List.{range_with_len}
use Rattle.bus_picture.specs.States.{state_of}
use Rattle.bus_picture.proofs.states.planned_states.Given as goal

abbrev pub invariant-loop-place : goal.invariant-loop-place
invariant-loop-place l = l.states.items ≡ map (state_of l.plan l.bound false) (range_with_len 0 l.place)
