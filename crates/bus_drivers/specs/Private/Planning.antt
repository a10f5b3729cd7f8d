-- A device of a plan.
use Rattle.std.specs.Prelude.{ℕ, Option, Result, Ok}
use Rattle.dt_tree.specs.Steps.{then_do}
use Rattle.bus_plan.specs.declared.error.PlanError.{PlanError}
use Rattle.bus_plan.specs.Plan.{PlannedDevice}
use Rattle.bus_drivers.specs.Driver.{DriverSetData}
use Rattle.bus_drivers.specs.Nodes.{TreeDevice, Target}
use Rattle.bus_drivers.specs.References.{all_references}
use Rattle.bus_drivers.specs.TreePlan.{suppliers_among, planned_device}

-- the device at this place planned, or the first fault of its properties
abbrev pub planned_at : (ℕ → Option Target) → DriverSetData → ℕ → TreeDevice → Result PlannedDevice PlanError
planned_at target set place d =
    then_do (all_references target d.properties) (λ mentioned. Ok (planned_device set d (suppliers_among place mentioned)))
