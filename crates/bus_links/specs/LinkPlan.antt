-- The plan of a tree by the links of Linux. A device waits for the suppliers of its links, but for early ones, and but for links
-- that lie in a cycle: those are relaxed. Cycles run along links and from each device to the one above it (drivers/base/core.c of
-- Linux 6.1: `__fw_devlink_relax_cycles`). The bus above stays a supplier, since buses alone make no cycle.
use Rattle.std.specs.Prelude.{ℕ, ◌+◌, Bool, not, ◌&&◌, ◌||◌, ◌==◌, nat_le, codes, if◌then◌else◌, List, [], ◌∷◌, ◌++◌, map, filter, length, Option, Some, None, is_some}
use Rattle.std.specs.Option.{option_map, option_to_list}
use Rattle.std.specs.List.{slice_index_or}
use Rattle.std.specs.Str.{bytes_eq}
use Rattle.dt_tree.specs.NodeData.{NodeData}
use Rattle.bus_plan.specs.declared.error.PlanError.{PlanError}
use Rattle.bus_plan.specs.declared.error.PlanError.TheVariants.{UnknownPath, TooManyDevices}
use Rattle.bus_plan.specs.Limits.{most_devices}
use Rattle.bus_plan.specs.Plan.{PlannedDevice, driver_of}
use Rattle.bus_plan.specs.PlanPaths.{is_among}
use Rattle.bus_drivers.specs.Driver.{DriverSetData}
use Rattle.bus_drivers.specs.Nodes.{TreeDevice, device_nodes, tree_devices}
use Rattle.bus_drivers.specs.TreePlan.{suppliers_among, planned_device, unknown_fail}
use Rattle.bus_plan.specs.Reach.Components.{component_of}
use Rattle.bus_links.specs.LinkDrivers.{LinkDriversData}
use Rattle.bus_links.specs.Links.{LinkData, flags, flag_at, linux_devices, tree_buses, tree_links, tree_parents}

-- ---- which links are waited for
-- a link between devices of one component lies in a cycle; that to the bus above isn't relaxed
abbrev pub is_relaxed : List ℕ → LinkData → Bool
is_relaxed components l = not l.is_bus && component_of components l.consumer == component_of components l.supplier

-- that of an early device isn't waited for
abbrev pub is_counted : List Bool → LinkData → Bool
is_counted early l = not (flag_at early l.supplier)

abbrev pub is_waited_for : List Bool → List ℕ → LinkData → Bool
is_waited_for early components l = is_counted early l && not (is_relaxed components l)

-- ---- suppliers
-- those of the links of the device at this place that pass the test, and its parent
abbrev pub suppliers_by : (LinkData → Bool) → ℕ → List LinkData → Option ℕ → List ℕ
suppliers_by test own links parent = suppliers_among own (map (λ l. l.supplier) (filter test links) ++ option_to_list parent)

abbrev pub links_at : List (List LinkData) → ℕ → List LinkData
links_at links own = slice_index_or links own []

abbrev pub parent_at : List (Option ℕ) → ℕ → Option ℕ
parent_at parents own = slice_index_or parents own None

-- these devices planned, the first of which has this place
abbrev pub planned_by : DriverSetData → (LinkData → Bool) → List (Option ℕ) → List (List LinkData) → ℕ → List TreeDevice → List PlannedDevice
planned_by set test parents links own [] = []
planned_by set test parents links own (d ∷ ds) =
    planned_device set d (suppliers_by test own (links_at links own) (parent_at parents own)) ∷ planned_by set test parents links (own + 1) ds

-- ---- plans
-- that of all links which count and of all parents, cycles among them
abbrev pub counted_plan : NodeData → LinkDriversData → Bool → List PlannedDevice
counted_plan root set strict =
    planned_by set.drivers (is_counted (flags set.early (tree_devices root))) (tree_parents root) (tree_links root set strict) 0 (linux_devices root set)

abbrev pub relaxed_plan : NodeData → LinkDriversData → Bool → List ℕ → List PlannedDevice
relaxed_plan root set strict components =
    planned_by set.drivers (is_waited_for (flags set.early (tree_devices root)) components) [] (tree_links root set strict) 0 (linux_devices root set)

-- ---- behind the timeout
-- When `deferred_probe_timeout` ends (10 s behind the last driver) Linux relaxes the links to devices that no driver matches, and
-- probes again what waited (drivers/base/core.c: `fw_devlink_drivers_done`, `fw_devlink_no_driver`).
-- a driver may match later, for which these ask on without an end: a device's own lines (drivers/gpio/gpiolib-of.c: `of_find_gpio`),
-- power domains (drivers/base/power/domain.c: `__genpd_dev_pm_attach`), `assigned-clock-parents` (`__set_clk_parents`)
abbrev pub lasting : List (List ℕ)
lasting = codes "gpio" ∷ codes "gpios" ∷ codes "power-domains" ∷ codes "assigned-clock-parents" ∷ []

-- a link to the bus above stays, since that makes the device, and one to a part of a device, of which there is none
abbrev pub is_lasting : LinkData → Bool
is_lasting l = l.is_bus || (l.is_part || is_among l.property lasting)

-- no driver matches the device at this place
abbrev pub lacks_driver : List PlannedDevice → ℕ → Bool
lacks_driver plan d = not (is_some (driver_of plan d))

-- in place of a device its bus, without which it isn't made
abbrev pub with_supplier : LinkData → ℕ → LinkData
with_supplier l bus = record { consumer = l.consumer; supplier = bus; property = l.property; entry = l.entry; is_bus = l.is_bus; is_part = l.is_part }

-- what is left of a link that was waited for: `iommus` are waited for until then (drivers/iommu/of_iommu.c: `of_iommu_xlate`), unless
-- they make links
abbrev pub late_link : Bool → List PlannedDevice → List (Option ℕ) → LinkData → List LinkData
late_link strict plan buses l =
    if not strict && bytes_eq l.property (codes "iommus") then []
    else (if not (is_lasting l) && lacks_driver plan l.supplier then map (with_supplier l) (option_to_list (parent_at buses l.supplier))
    else l ∷ [])

abbrev pub late_links : (LinkData → Bool) → (LinkData → List LinkData) → List LinkData → List LinkData
late_links test left [] = []
late_links test left (l ∷ ls) = (if test l then left l else []) ++ late_links test left ls

abbrev pub left_links : List Bool → List (Option ℕ) → Bool → List ℕ → List PlannedDevice → List (List LinkData) → List (List LinkData)
left_links early buses strict components plan links = map (late_links (is_waited_for early components) (late_link strict plan buses)) links

abbrev pub planned_late : DriverSetData → List Bool → List (Option ℕ) → Bool → List ℕ → List PlannedDevice → List (List LinkData) → List TreeDevice → List PlannedDevice
planned_late set early buses strict components plan links devices =
    planned_by set (is_counted early) [] (left_links early buses strict components plan links) 0 devices

-- the plan that is left, by the plan until then
abbrev pub late_plan : NodeData → LinkDriversData → Bool → List ℕ → List PlannedDevice → List PlannedDevice
late_plan root set strict components plan =
    planned_late set.drivers (flags set.early (tree_devices root)) (tree_buses root set) strict components plan (tree_links root set strict) (linux_devices root set)

-- ---- refusals
-- the first refusal of a tree, as of a plan of it: too many devices, then a `fail` line whose path is no device's
abbrev pub tree_refusal : NodeData → DriverSetData → Option PlanError
tree_refusal root set =
    if nat_le (length (device_nodes root)) most_devices then option_map (λ f. UnknownPath f.line) (unknown_fail (tree_devices root) set.fails)
    else Some TooManyDevices
