use Rattle.std.proofs.Common.{◌≡◌, ℕ, List, drop}
use Rattle.bus_drivers.specs.Private.Matching.{driver_found, found_with}
use Rattle.bus_drivers.proofs.matching.add_driver.Given as goal

-- the strings that are left add what all add
abbrev pub invariant-loop-string : goal.invariant-loop-string
invariant-loop-string l =
    (q : List ℕ) → found_with (driver_found l.found.entries q) l.driver.name (drop l.string-index l.driver.compatibles) q
    ≡ found_with (driver_found l.fn.found.entries q) l.driver.name l.driver.compatibles q
