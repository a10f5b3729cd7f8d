use Rattle.std.proofs.Common.{◌≡◌, ◌++◌, map, drop}
use Rattle.bus_links.specs.Links.{warned}
use Rattle.bus_links.proofs.linker.add_warnings.Given as goal

abbrev pub invariant-loop-fault : goal.invariant-loop-fault
invariant-loop-fault l = l.warnings.items ++ map (warned l.own) (drop l.fault-index l.faults) ≡ l.fn.warnings.items ++ map (warned l.own) l.faults
