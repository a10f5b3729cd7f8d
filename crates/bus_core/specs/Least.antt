-- The least set of bound devices (Linux driver-api, driver model): what matching and suppliers force, and no more.
use Rattle.std.specs.Prelude.{◌≡◌, ◌↔◌, ℕ, Bool, true, List}
use Rattle.bus_plan.specs.Plan.{PlannedDevice, verdict_of}
use Rattle.bus_plan.specs.declared.verdict.Verdict.TheVariants.{Binds}
use Rattle.bus_core.specs.Ready.{is_ready}

-- each device that is ready for the set, and whose driver binds it, is in the set
abbrev pub IsClosed : List PlannedDevice → (ℕ → Bool) → Type 0
IsClosed plan set = (d : ℕ) → is_ready plan set d ≡ true → verdict_of plan d ≡ Binds → set d ≡ true

-- the devices that are in every closed set
abbrev pub IsLeast : List PlannedDevice → (ℕ → Bool) → Type 0
IsLeast plan bound = (d : ℕ) → (bound d ≡ true) ↔ ((set : ℕ → Bool) → IsClosed plan set → set d ≡ true)
