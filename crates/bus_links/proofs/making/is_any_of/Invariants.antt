use Rattle.std.proofs.Common.{◌≡◌, length}
use Rattle.std.specs.List.{list_any}
use Rattle.bus_plan.specs.PlanPaths.{is_among}
use Rattle.bus_drivers.specs.TreePlan.{strings}
use Rattle.bus_links.specs.Private.Families.{family_strings}
use Rattle.bus_links.proofs.making.is_any_of.Given as goal

abbrev pub invariant-loop-string : goal.invariant-loop-string
invariant-loop-string l =
    list_any (λ string. is_among string (family_strings l.family)) (strings l.rest)
    ≡ list_any (λ string. is_among string (family_strings l.family)) (strings l.value)

abbrev pub decreases-loop-string : goal.decreases-loop-string
decreases-loop-string l = length l.rest
