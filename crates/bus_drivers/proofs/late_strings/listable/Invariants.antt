use Rattle.std.proofs.Common.{◌≡◌, ◌++◌, length}
use Rattle.std.specs.Prelude.{filter}
use Rattle.bus_plan.specs.Plan.{is_compatible}
use Rattle.bus_drivers.specs.TreePlan.{strings}
use Rattle.bus_drivers.proofs.late_strings.listable.Given as goal

-- the copies so far and those of the strings that are left are all
abbrev pub invariant-loop-string : goal.invariant-loop-string
invariant-loop-string l = l.copies.items ++ filter is_compatible (strings l.rest) ≡ filter is_compatible (strings l.value)

abbrev pub decreases-loop-string : goal.decreases-loop-string
decreases-loop-string l = length l.rest
