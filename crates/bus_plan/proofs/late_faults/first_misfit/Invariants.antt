use Rattle.std.proofs.Common.{◌≡◌, drop}
use Rattle.bus_plan.specs.Private.Reading.{first_misfit}
use Rattle.bus_plan.proofs.late_faults.first_misfit.Given as goal

-- the lists so far fit
abbrev pub invariant-loop-list : goal.invariant-loop-list
invariant-loop-list l = first_misfit l.devices l.lists ≡ first_misfit l.devices (drop l.list-index l.lists)
