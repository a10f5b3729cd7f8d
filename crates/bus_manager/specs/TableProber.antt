-- What a probe by the plan alone reports.
use Rattle.std.specs.Prelude.{◌≡◌, ℕ, Bool, List, Option, Some, None}
use Rattle.bus_plan.specs.Plan.{PlannedDevice}
use Rattle.bus_core.specs.declared.event.Report.{Report}
use Rattle.bus_core.specs.declared.event.Report.TheVariants.{Settled, Missing}
use Rattle.bus_core.specs.Report.{missing_supplier}

-- the first missing supplier is reported, if there is one
abbrev pub report_of_missing : Option ℕ → Report
report_of_missing None = Settled
report_of_missing (Some supplier) = Missing supplier

abbrev pub table_report : List PlannedDevice → (ℕ → Bool) → ℕ → Report
table_report plan seen d = report_of_missing (missing_supplier plan seen d)

-- its note is the device, and shows what the plan alone says of it by the devices that were told as bound
abbrev pub ShowsTable : List PlannedDevice → ℕ → (ℕ → Bool) → Report → ℕ → Type 0
ShowsTable plan d seen report note = (note ≡ d) × (report ≡ table_report plan seen d)
