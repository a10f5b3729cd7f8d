-- The faults of an event of a schedule.
use Rattle.std.specs.Prelude.{ℕ}
use Rattle.bus_core.specs.declared.refusal.Refusal.{Refusal}
use Rattle.bus_core.specs.declared.refusal.Refusal.TheVariants.{NoMemory}
use Rattle.bus_core.specs.Refusal.{number_of, name_of}
use Rattle.dtman_engine.specs.Fault.{FaultValue}
use Rattle.dtman_engine.specs.declared.fault.Position.{Position}
use Rattle.dtman_engine.specs.declared.fault.Position.TheVariants.{Nowhere, Event}

-- want of memory is no event's
abbrev pub event_position : ℕ → Refusal → Position
event_position number NoMemory = Nowhere
event_position number _ = Event number

abbrev pub event_fault : ℕ → Refusal → FaultValue
event_fault number refusal = record { number = number_of refusal; name = name_of refusal; position = event_position number refusal }
