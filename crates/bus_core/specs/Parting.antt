-- What is asked of a core by whoever goes on from it in another way.
use Rattle.std.specs.Prelude.{Bool, is_some}
use Rattle.std.specs.List.{list_any}
use Rattle.bus_core.specs.CoreState.{CoreState}

-- whether a flight is open
abbrev pub has_flight : CoreState → Bool
has_flight s = list_any is_some s.flights
