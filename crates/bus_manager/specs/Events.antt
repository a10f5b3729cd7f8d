-- The events that a keeper has stored: which of them are begins or late drivers, which of a device's are begins or abandons,
-- and whether each begin was of a due device.
use Rattle.std.specs.Prelude.{◌==◌, ℕ, Bool, true, false, ◌&&◌, List, [], ◌∷◌}
use Rattle.bus_core.specs.declared.event.Event.{Event}
use Rattle.bus_core.specs.declared.event.Event.TheVariants.{Begin, Finish, Abandon, Register}
use Rattle.bus_core.specs.CoreState.{CoreValue}
use Rattle.bus_core.specs.Due.{is_due}
use Rattle.bus_core.specs.Replay.{event_core}

abbrev pub is_begin : Event → Bool
is_begin (Begin d) = true
is_begin (Finish d report) = false
is_begin (Abandon d) = false
is_begin (Register name strings) = false

abbrev pub is_register : Event → Bool
is_register (Begin d) = false
is_register (Finish d report) = false
is_register (Abandon d) = false
is_register (Register name strings) = true

abbrev pub is_begin_of : ℕ → Event → Bool
is_begin_of d (Begin e) = e == d
is_begin_of d (Finish e report) = false
is_begin_of d (Abandon e) = false
is_begin_of d (Register name strings) = false

abbrev pub is_abandon_of : ℕ → Event → Bool
is_abandon_of d (Begin e) = false
is_abandon_of d (Finish e report) = false
is_abandon_of d (Abandon e) = e == d
is_abandon_of d (Register name strings) = false

-- no begin of a device that wasn't due
abbrev pub is_of_due : CoreValue → Event → Bool
is_of_due core (Begin d) = is_due core.plan core.state d
is_of_due core (Finish d report) = true
is_of_due core (Abandon d) = true
is_of_due core (Register name strings) = true

-- each begin of the list, played from this core, is of a device that is due then
abbrev pub are_of_due : CoreValue → List Event → Bool
are_of_due core [] = true
are_of_due core (e ∷ es) = is_of_due core e && are_of_due (event_core core e) es
