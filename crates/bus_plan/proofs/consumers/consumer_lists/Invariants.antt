use Rattle.std.proofs.Common.{map}
use Rattle.bus_plan.proofs.ConsumersLemmas.{IsGathered}
use Rattle.bus_plan.proofs.consumers.consumer_lists.Given as goal

-- the devices so far stand behind the lists of their suppliers
abbrev pub invariant-loop-place : goal.invariant-loop-place
invariant-loop-place l = IsGathered l.plan l.place (map (λ list. list.items) l.lists.items)
