use Rattle.std.proofs.Common.{map, take}
use Rattle.bus_plan.specs.Private.DeviceLists.{IsAdded}
use Rattle.bus_plan.proofs.consumers.add_consumer.Given as goal

-- the consumer stands behind the lists of the suppliers so far
abbrev pub invariant-loop-supplier : goal.invariant-loop-supplier
invariant-loop-supplier l =
    IsAdded (map (λ list. list.items) l.fn.lists.items) (map (λ list. list.items) l.lists.items) l.consumer (take l.supplier-index l.suppliers)
