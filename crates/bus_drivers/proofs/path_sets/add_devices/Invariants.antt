use Rattle.std.proofs.Common.{◌≡◌, ◌++◌, ℕ, List, drop}
use Rattle.bus_plan.specs.PlanPaths.{is_among}
use Rattle.bus_drivers.specs.Private.Matching.{device_paths}
use Rattle.bus_drivers.proofs.path_sets.add_devices.Given as goal

-- the paths so far and those that are left are all paths
abbrev pub invariant-loop-device : goal.invariant-loop-device
invariant-loop-device l = (q : List ℕ) → is_among q (l.index ++ device_paths (drop l.device-index l.devices)) ≡ is_among q (device_paths l.devices)
