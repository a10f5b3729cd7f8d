-- The number and the name of each refusal.
use Rattle.std.specs.Prelude.{ℕ, List, codes}
use Rattle.bus_core.specs.declared.refusal.Refusal.{Refusal}
use Rattle.bus_core.specs.declared.refusal.Refusal.TheVariants.{NoMemory, NotIdle, Unmatched, StaleTicket, NotReady, WasBound, TooManyEvents, NotInFlight, KnownDriver}

abbrev pub number_of : Refusal → ℕ
number_of NoMemory = 0
number_of NotIdle = 60
number_of Unmatched = 61
number_of StaleTicket = 62
number_of NotReady = 63
number_of WasBound = 64
number_of TooManyEvents = 65
number_of NotInFlight = 66
number_of KnownDriver = 67

abbrev pub name_of : Refusal → List ℕ
name_of NoMemory = codes "NoMemory"
name_of NotIdle = codes "NotIdle"
name_of Unmatched = codes "Unmatched"
name_of StaleTicket = codes "StaleTicket"
name_of NotReady = codes "NotReady"
name_of WasBound = codes "WasBound"
name_of TooManyEvents = codes "TooManyEvents"
name_of NotInFlight = codes "NotInFlight"
name_of KnownDriver = codes "KnownDriver"
