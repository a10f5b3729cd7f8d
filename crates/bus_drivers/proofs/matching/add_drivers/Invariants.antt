use Rattle.std.proofs.Common.{◌≡◌, ℕ, List, drop}
use Rattle.dt_tree.specs.Phandle.{or_else}
use Rattle.bus_drivers.specs.TreePlan.{driver_naming}
use Rattle.bus_drivers.specs.Private.Matching.{driver_found}
use Rattle.bus_drivers.proofs.matching.add_drivers.Given as goal

-- the drivers that are left add what all add
abbrev pub invariant-loop-driver : goal.invariant-loop-driver
invariant-loop-driver l =
    (q : List ℕ) → or_else (driver_found l.found.entries q) (driver_naming (drop l.driver-index l.drivers) q)
    ≡ or_else (driver_found l.fn.found.entries q) (driver_naming l.drivers q)
