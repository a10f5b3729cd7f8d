-- What a prober may report (Linux driver-api, deferred probing): a driver whose suppliers are all bound settles its
-- device, and one that misses a supplier says so.
use Rattle.std.specs.Prelude.{◌≡◌, ℕ, Bool, true, false, List}
use Rattle.std.specs.List.{list_all}
use Rattle.bus_plan.specs.Plan.{PlannedDevice, suppliers_of}
use Rattle.bus_core.specs.declared.event.Report.{Report}
use Rattle.bus_core.specs.declared.event.Report.TheVariants.{Settled, Missing}
use Rattle.bus_core.specs.Step.{is_supplier}

-- by the devices that the flight saw bound
abbrev pub IsLawfulReport : List PlannedDevice → (ℕ → Bool) → ℕ → Report → Type 0
IsLawfulReport plan seen d Settled = list_all seen (suppliers_of plan d) ≡ true
IsLawfulReport plan seen d (Missing supplier) = (is_supplier plan d supplier ≡ true) × (seen supplier ≡ false)
