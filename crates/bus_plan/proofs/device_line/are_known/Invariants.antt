use Rattle.std.proofs.Common.{◌≡◌, true, take}
use Rattle.bus_plan.specs.PlanPaths.{are_known}
use Rattle.bus_plan.proofs.PathLemmas.{texts}
use Rattle.bus_plan.proofs.device_line.are_known.Given as goal

-- the paths so far are known
abbrev pub invariant-loop-path : goal.invariant-loop-path
invariant-loop-path l = are_known l.index (texts (take l.path-index l.paths)) ≡ true
