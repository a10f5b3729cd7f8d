-- A driver set with what Linux does without drivers of its driver core: the `compatible` strings of devices that are set up before the
-- bus begins (`early`), and of buses whose devices are made without a driver for the bus (`bus`).
use Rattle.std.specs.Prelude.{ℕ, codes, List, [], ◌∷◌}
use Rattle.bus_drivers.specs.Driver.{DriverSetData}

pub record LinkDriversData : Type 0 where
  pub drivers : DriverSetData
  pub early : List (List ℕ)
  pub buses : List (List ℕ)

-- the buses whose children Linux makes by itself (Documentation/devicetree/usage-model, "Device model support")
abbrev pub simple_buses : List (List ℕ)
simple_buses = codes "simple-bus" ∷ codes "simple-mfd" ∷ codes "isa" ∷ codes "arm,amba-bus" ∷ []
