-- With the relaxed links out no cycle is left.
use Rattle.std.specs.Prelude.{◌≡◌, ℕ, Bool, true, ◌&&◌, List, [], ◌∷◌, ◌++◌}
use Rattle.dt_tree.specs.NodeData.{NodeData}
use Rattle.bus_plan.specs.Consumers.{has_supplier}
use Rattle.bus_plan.specs.Plan.{PlannedDevice}
use Rattle.bus_plan.specs.Reach.Components.{AreComponents}
use Rattle.bus_links.specs.LinkDrivers.{LinkDriversData}
use Rattle.bus_links.specs.LinkPlan.{counted_plan, relaxed_plan}

-- each of these devices waits for the next
abbrev pub is_chain : List PlannedDevice → ℕ → List ℕ → Bool
is_chain plan d [] = true
is_chain plan d (s ∷ more) = has_supplier plan d s && is_chain plan s more

-- by components such as linking answers, no chain of the plan's suppliers comes back to where it began
abbrev pub NoCycleIsLeft : Type 0
NoCycleIsLeft =
    (root : NodeData) (set : LinkDriversData) (strict : Bool) (components : List ℕ) → AreComponents (counted_plan root set strict) components
    → (d : ℕ) (between : List ℕ) → ¬ (is_chain (relaxed_plan root set strict components) d (between ++ d ∷ []) ≡ true)
