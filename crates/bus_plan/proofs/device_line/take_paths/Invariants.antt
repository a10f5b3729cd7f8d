use Rattle.bus_plan.proofs.PathLemmas.{IsReadSoFar}
use Rattle.bus_plan.proofs.device_line.take_paths.Given as goal

-- the paths so far have their form and differ, and the set has them
abbrev pub invariant-loop-path : goal.invariant-loop-path
invariant-loop-path l = IsReadSoFar l.own l.fn.fields l.path-iterator l.seen l.paths.items
