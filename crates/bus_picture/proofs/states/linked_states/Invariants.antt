use Rattle.std.proofs.Common.{◌≡◌, map}
use Rattle.std.specs.List.{range_with_len}
use Rattle.bus_links.specs.Links.{flag_at}
use Rattle.bus_picture.specs.States.{state_of}
use Rattle.bus_picture.proofs.states.linked_states.Given as goal

abbrev pub invariant-loop-place : goal.invariant-loop-place
invariant-loop-place l = l.states.items ≡ map (λ d. state_of l.linked.plan l.bound (flag_at l.linked.early d) d) (range_with_len 0 l.place)
