-- The supplier that a line of a report names. No public clause cites it.
use Rattle.std.specs.Prelude.{◌≡◌, ℕ, Bool, List, Option}
use Rattle.bus_plan.specs.Plan.{PlannedDevice}
use Rattle.bus_core.specs.declared.status.Status.{Status}
use Rattle.bus_core.specs.Report.{missing_supplier, line_of}

-- with it the line of a device of this status is the one with the first supplier that isn't bound
abbrev pub IsNamedSupplier : List PlannedDevice → (ℕ → Bool) → ℕ → Status → Option ℕ → Type 0
IsNamedSupplier plan bound d said supplier = line_of plan supplier said d ≡ line_of plan (missing_supplier plan bound d) said d
