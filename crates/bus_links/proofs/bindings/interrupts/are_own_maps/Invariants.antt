use Rattle.std.proofs.Common.{◌≡◌, length}
use Rattle.std.specs.List.{list_any}
use Rattle.bus_plan.specs.PlanPaths.{is_among}
use Rattle.bus_drivers.specs.TreePlan.{strings}
use Rattle.bus_links.specs.Bindings.Interrupts.{own_maps}
use Rattle.bus_links.proofs.bindings.interrupts.are_own_maps.Given as goal

abbrev pub invariant-loop-string : goal.invariant-loop-string
invariant-loop-string l = list_any (λ string. is_among string own_maps) (strings l.rest) ≡ list_any (λ string. is_among string own_maps) (strings l.value)

abbrev pub decreases-loop-string : goal.decreases-loop-string
decreases-loop-string l = length l.rest
