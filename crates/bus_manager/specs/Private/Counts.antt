-- How many flights a keeper has dropped, and how many are open.
use Rattle.std.specs.Prelude.{ℕ, Bool, true, false, is_some, count_by}
use Rattle.bus_core.specs.declared.event.Event.{Event}
use Rattle.bus_core.specs.declared.event.Event.TheVariants.{Begin, Finish, Abandon, Register}
use Rattle.bus_core.specs.CoreState.{CoreState}
use Rattle.bus_manager.specs.Keeper.{KeeperValue}

abbrev pub is_abandon : Event → Bool
is_abandon (Begin d) = false
is_abandon (Finish d report) = false
is_abandon (Abandon d) = true
is_abandon (Register name strings) = false

abbrev pub abandons : KeeperValue → ℕ
abandons k = count_by is_abandon k.events

abbrev pub open_flights : CoreState → ℕ
open_flights s = count_by is_some s.flights
