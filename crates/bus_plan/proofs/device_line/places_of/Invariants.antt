use Rattle.std.proofs.Common.{◌≡◌, map, take, true}
use Rattle.bus_plan.specs.PlanPaths.{are_known, place_of}
use Rattle.bus_plan.proofs.PathLemmas.{texts}
use Rattle.bus_plan.proofs.device_line.places_of.Given as goal

-- the suppliers so far are known, and their places found
abbrev pub invariant-loop-supplier : goal.invariant-loop-supplier
invariant-loop-supplier l =
    (are_known l.index (texts (take l.supplier-index l.suppliers)) ≡ true)
    × (l.places.items ≡ map (place_of l.index) (texts (take l.supplier-index l.suppliers)))
