-- What a worker of a run with a lock has, where it has taken a flight.
use Rattle.std.specs.Prelude.{◌<◌, ℕ, List, Option, IfSome, length}
use Rattle.bus_plan.specs.Plan.{PlannedDevice}
use Rattle.bus_manager.specs.declared.manager.Flight.{Flight}
use Rattle.bus_manager.specs.Private.Notes.{AreForced}
use Rattle.bus_manager.specs.Seen.{sees}

-- the flight is of a device of the plan, and what it saw bound is so at the end
abbrev pub IsFlightOf : List PlannedDevice → Flight → Type 0
IsFlightOf plan f = (f.ticket.device < length plan) × AreForced plan (sees f.seen)

-- and there is room for its note behind these
abbrev pub HasRoom : List PlannedDevice → Option Flight → ℕ → ℕ → Type 0
HasRoom plan flight count capacity = IfSome flight (λ f. IsFlightOf plan f × (count < capacity))
