-- A text that is a driver file.
use Rattle.std.specs.Prelude.{◌≡◌, ℕ, List, Ok}
use Rattle.bus_drivers.specs.Driver.{DriverSetData}
use Rattle.bus_drivers.specs.DriverFile.{reading}

abbrev pub IsDriverFile : List ℕ → Type 0
IsDriverFile text = (set : DriverSetData) × (reading text ≡ Ok set)
