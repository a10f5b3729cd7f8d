-- The plan of a tree and a driver set. A device's driver is the one for the most specific of its `compatible` strings (Devicetree
-- Specification v0.4, section 2.3.1), and its suppliers are the devices that its properties refer to (Linux driver-api, "Device
-- links").
use Rattle.std.specs.Prelude.{ℕ, ◌+◌, Bool, not, ◌==◌, nat_le, codes, if◌then◌else◌, List, [], ◌∷◌, map, filter, length, Option, Some, None, unwrap_or, Result, Ok, Err}
use Rattle.std.specs.Option.{option_map, option_map_or}
use Rattle.std.specs.List.{find, slice_split}
use Rattle.dt_tree.specs.Steps.{then_do}
use Rattle.dt_tree.specs.NodeData.{NodeData}
use Rattle.dt_tree.specs.PathMap.{value_of}
use Rattle.dt_tree.specs.Phandle.{or_else}
use Rattle.bus_plan.specs.declared.error.PlanError.{PlanError}
use Rattle.bus_plan.specs.declared.error.PlanError.TheVariants.{UnknownPath, TooManyDevices}
use Rattle.bus_plan.specs.declared.verdict.Verdict.{Verdict}
use Rattle.bus_plan.specs.declared.verdict.Verdict.TheVariants.{Binds, Fails}
use Rattle.bus_plan.specs.Limits.{most_devices}
use Rattle.bus_plan.specs.Plan.{PlannedDevice, is_compatible}
use Rattle.bus_plan.specs.PlanPaths.{is_among}
use Rattle.bus_drivers.specs.Driver.{DriverData, FailData, DriverSetData}
use Rattle.bus_drivers.specs.Nodes.{TreeDevice, Target, device_nodes, tree_devices, target_of}
use Rattle.bus_drivers.specs.References.{all_references}

-- ---- drivers
-- the strings of a value: what stands before each zero byte, in order
abbrev pub is_zero : ℕ → Bool
is_zero b = b == 0

abbrev pub without_last : List (List ℕ) → List (List ℕ)
without_last [] = []
without_last (part ∷ []) = []
without_last (part ∷ next ∷ more) = part ∷ without_last (next ∷ more)

abbrev pub strings : List ℕ → List (List ℕ)
strings value = without_last (slice_split is_zero value)

-- the strings of `compatible`, the most specific first
abbrev pub compatible_strings : TreeDevice → List (List ℕ)
compatible_strings d = strings (unwrap_or (value_of d.properties (codes "compatible")) [])

-- the first driver in the file that lists a string
abbrev pub driver_naming : List DriverData → List ℕ → Option (List ℕ)
driver_naming drivers string = option_map (λ d. d.name) (find (λ d. is_among string d.compatibles) drivers)

-- the driver for the earliest of these strings that one lists
abbrev pub driver_matching : List DriverData → List (List ℕ) → Option (List ℕ)
driver_matching drivers [] = None
driver_matching drivers (string ∷ more) = or_else (driver_naming drivers string) (driver_matching drivers more)

-- a device that isn't available gets none
abbrev pub driver_for : List DriverData → TreeDevice → Option (List ℕ)
driver_for drivers d = if d.available then driver_matching drivers (compatible_strings d) else None

-- ---- verdicts
-- only a driver fails
abbrev pub verdict_for : Option (List ℕ) → Bool → Verdict
verdict_for None fails = Binds
verdict_for (Some driver) fails = if fails then Fails else Binds

abbrev pub fail_paths : List FailData → List (List ℕ)
fail_paths fails = map (λ f. f.path) fails

-- the first `fail` line, in order, whose path is no device's
abbrev pub unknown_fail : List TreeDevice → List FailData → Option FailData
unknown_fail devices fails = find (λ f. not (is_among f.path (map (λ d. d.path) devices))) fails

-- ---- strings
-- those by which a late driver may match a device: it is available and has no driver, and a driver may list them
abbrev pub late_strings : Option (List ℕ) → TreeDevice → List (List ℕ)
late_strings None d = if d.available then filter is_compatible (compatible_strings d) else []
late_strings (Some driver) d = []

-- ---- suppliers
-- each device once, where it is first mentioned
abbrev pub first_mentions : List ℕ → List ℕ
first_mentions [] = []
first_mentions (d ∷ ds) = d ∷ filter (λ e. not (e == d)) (first_mentions ds)

-- the suppliers of a device whose properties refer to these, itself left out
abbrev pub suppliers_among : ℕ → List ℕ → List ℕ
suppliers_among own mentioned = first_mentions (filter (λ d. not (d == own)) mentioned)

-- ---- the plan
abbrev pub planned_device : DriverSetData → TreeDevice → List ℕ → PlannedDevice
planned_device set d suppliers =
    let driver = driver_for set.drivers d in record {
      path = d.path;
      available = d.available;
      driver = driver;
      verdict = verdict_for driver (is_among d.path (fail_paths set.fails));
      suppliers = suppliers;
      compatibles = late_strings driver d;
    }

-- these devices planned, the first of which has this place, or the first fault of their properties
abbrev pub planned_from : (ℕ → Option Target) → DriverSetData → ℕ → List TreeDevice → Result (List PlannedDevice) PlanError
planned_from target set place [] = Ok []
planned_from target set place (d ∷ ds) =
    then_do (all_references target d.properties) (λ mentioned.
    then_do (planned_from target set (place + 1) ds) (λ more.
    Ok (planned_device set d (suppliers_among place mentioned) ∷ more)))

-- the faults of the `fail` lines come first
abbrev pub plan_of_devices : (ℕ → Option Target) → DriverSetData → List TreeDevice → Result (List PlannedDevice) PlanError
plan_of_devices target set devices =
    option_map_or (λ f. Err (UnknownPath f.line)) (unknown_fail devices set.fails) (planned_from target set 0 devices)

-- that of a tree's devices, by its root
abbrev pub plan_of_tree : NodeData → DriverSetData → Result (List PlannedDevice) PlanError
plan_of_tree root set = plan_of_devices (target_of root) set (tree_devices root)

-- the plan of a tree, by its root, or the first refusal: too many devices before all else
abbrev pub plan_of : NodeData → DriverSetData → Result (List PlannedDevice) PlanError
plan_of root set =
    if nat_le (length (device_nodes root)) most_devices then plan_of_tree root set
    else Err TooManyDevices
