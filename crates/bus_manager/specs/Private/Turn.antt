-- What a worker does next, by what stands under the lock, and what it leaves there.
use Rattle.std.specs.Prelude.{◌≡◌, ◌≢◌, ◌<◌, ℕ, Bool, true, false, List, None}
use Rattle.bus_plan.specs.Plan.{PlannedDevice}
use Rattle.bus_core.specs.Due.{is_due, is_quiet}
use Rattle.bus_core.specs.Step.{finish_refusal}
use Rattle.bus_core.specs.declared.event.Reply.{Reply}
use Rattle.bus_core.specs.declared.event.Reply.TheVariants.{Bound, Failed, Waiting, Again}
use Rattle.bus_core.specs.declared.event.Report.{Report}
use Rattle.bus_core.specs.declared.event.Report.TheVariants.{Settled, Missing}
use Rattle.bus_core.specs.declared.event.Ticket.{Ticket}
use Rattle.bus_manager.specs.declared.manager.Turn.{Turn}
use Rattle.bus_manager.specs.declared.manager.Turn.TheVariants.{Fly, Wait, Quiet}
use Rattle.bus_manager.specs.Keeper.{KeeperValue, IsTaken, finished_keeper}
use Rattle.bus_manager.specs.Private.Counts.{open_flights}
use Rattle.bus_manager.specs.Private.Locked.{IsFlightOf}

-- whether a device is due
abbrev pub IsMoreDue : KeeperValue → Bool → Type 0
IsMoreDue k true = (d : ℕ) × (is_due k.plan k.state d ≡ true)
IsMoreDue k false = (d : ℕ) → is_due k.plan k.state d ≡ false

-- It probes a due device, and is told whether another is due behind it; it waits only where nothing is due and a flight is
-- open; it leaves only where all is quiet.
abbrev pub IsTurn : KeeperValue → KeeperValue → Turn → Type 0
IsTurn old new (Fly flight) = IsTaken old new flight.ticket flight.seen × IsMoreDue new flight.more
IsTurn old new Wait = (new ≡ old) × ((d : ℕ) → is_due old.plan old.state d ≡ false) × (0 < open_flights old.state)
IsTurn old new Quiet = (new ≡ old) × (is_quiet old.plan old.state ≡ true)

-- the flight of a turn is of a device of the plan, and saw bound what is so at the end
abbrev pub IsTurnOf : List PlannedDevice → Turn → Type 0
IsTurnOf plan (Fly flight) = IsFlightOf plan flight
IsTurnOf plan Wait = Unit {0}
IsTurnOf plan Quiet = Unit {0}

-- the reply to a settle
abbrev pub tells_settled : Reply → Bool
tells_settled Bound = true
tells_settled Failed = true
tells_settled Waiting = false
tells_settled Again = false

abbrev pub is_settling : Report → Bool
is_settling Settled = true
is_settling (Missing supplier) = false

-- The flight of the ticket has ended by its report, and it is told whether its device has settled; a report that the core
-- refuses changes nothing, and settles nothing.
pub record IsEnded (old new : KeeperValue) (ticket : Ticket) (report : Report) (settled : Bool) : Type 0 where
  pub lawful : finish_refusal old.plan old.state ticket report ≡ None → (new ≡ finished_keeper old ticket.device report) × (settled ≡ is_settling report)
  pub refused : finish_refusal old.plan old.state ticket report ≢ None → (new ≡ old) × (settled ≡ false)
