use Rattle.std.proofs.Common.{map, take}
use Rattle.bus_plan.proofs.DeviceListsLemmas.{IsPacked}
use Rattle.bus_plan.proofs.device_lists.DeviceLists.of.Given as goal

-- the block holds the lists so far
abbrev pub invariant-loop-list : goal.invariant-loop-list
invariant-loop-list l = IsPacked l.starts.items l.block.items (map (λ list. list.items) (take l.list-index l.lists))
