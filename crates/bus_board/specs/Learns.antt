-- What the callers of a board learn: the answers and refusals of its calls, and what becomes of a seat's view.
use Rattle.std.specs.Prelude.{◌≡◌, ◌≢◌, ◌⊎◌, ℕ, ◌<◌, Bool, true, false, List, [], ◌∷◌, ◌++◌, length, Some, None, slice_get}
use Rattle.bus_plan.specs.Plan.{PlannedDevice, suppliers_of, verdict_of}
use Rattle.bus_core.specs.CoreState.{CoreValue}
use Rattle.bus_core.specs.History.{IsBusHistory, bound_in, outcome_by}
use Rattle.bus_core.specs.Step.{settle_of, settled_reply}
use Rattle.bus_core.specs.declared.event.Reply.{Reply}
use Rattle.bus_core.specs.declared.refusal.Refusal.{Refusal}
use Rattle.bus_core.specs.declared.refusal.Refusal.TheVariants.{NoMemory, NotIdle, Unmatched, StaleTicket, NotReady, WasBound, TooManyEvents, NotInFlight, KnownDriver}
use Rattle.bus_core.specs.declared.settle.Settle.{Settle}
use Rattle.bus_board.specs.Ends.{IsDone}
use Rattle.bus_board.specs.Lists.{Has, Among}
use Rattle.bus_board.specs.Outcomes.{History, IsFront}
use Rattle.bus_board.specs.Shares.{IsWhole}
use Rattle.bus_board.specs.Shown.{IsOf, Posted, Seated}
use Rattle.bus_board.specs.Words.{FRESH, WOKEN}
use Rattle.bus_board.specs.Views.{last_look, made, claimed_by, passed_all, looked, settled_by, deferred, with_debts, both, opener}
use Rattle.bus_board.specs.declared.view.View.{View}
use Rattle.bus_board.specs.declared.view.Flight.{Flight}

-- `take` answered None: claims were tried and lost, among them each device's from FRESH and from WOKEN. Where the seat is the only
-- one and owes nothing, nothing is left to do.
pub record Passed (v w : View) : Type 0 where
  pub log : History
  pub lost : List (ℕ × ℕ)
  pub all : (d : ℕ) → d < length v.plan → Among lost d FRESH × Among lost d WOKEN
  pub view : w ≡ passed_all v log lost
  pub front : IsFront v.seen log
  pub lawful : IsBusHistory v.plan log
  pub made : made w ≡ made v
  pub done : IsWhole v.share → v.owed ≡ [] → IsDone v.plan w

-- `take` answered the device: claims before it may have been lost, and the seat hadn't claimed it from this word before
pub record Claimed (v w : View) (d : ℕ) : Type 0 where
  pub log : History
  pub lost : List (ℕ × ℕ)
  pub from : ℕ
  pub from_is : (from ≡ FRESH) ⊎ (from ≡ WOKEN)
  pub inside : d < length v.plan
  pub new : ¬ Among v.claimed d from
  pub view : w ≡ claimed_by (passed_all v log lost) log d from
  pub front : IsFront v.seen log
  pub lawful : IsBusHistory v.plan log
  pub made : made w ≡ made v

abbrev pub NotTaken : View → Refusal → Type 0
NotTaken v NotIdle = v.flight ≢ None
NotTaken v NoMemory = v.flight ≡ None
NotTaken v Unmatched = ⊥
NotTaken v StaleTicket = ⊥
NotTaken v NotReady = ⊥
NotTaken v WasBound = ⊥
NotTaken v TooManyEvents = ⊥
NotTaken v NotInFlight = ⊥
NotTaken v KnownDriver = ⊥

-- `look` answered whether the supplier's word was BOUND
pub record LookedAt (v w : View) (s : ℕ) (b : Bool) : Type 0 where
  pub log : History
  pub flight : Flight
  pub open_was : v.flight ≡ Some flight
  pub supplier : Has (suppliers_of v.plan flight.device) s
  pub view : w ≡ looked v log s b
  pub front : IsFront v.seen log
  pub lawful : IsBusHistory v.plan log
  pub made : made w ≡ made v
  pub bound : b ≡ true → bound_in w.seen s ≡ true
  pub not_bound : b ≡ false → bound_in v.seen s ≡ false

abbrev pub NotLooked : View → ℕ → Refusal → Type 0
NotLooked v s NotInFlight = v.flight ≡ None
NotLooked v s WasBound = (f : Flight) × (v.flight ≡ Some f) × ¬ Has (suppliers_of v.plan f.device) s
NotLooked v s NoMemory = ⊥
NotLooked v s NotIdle = ⊥
NotLooked v s Unmatched = ⊥
NotLooked v s StaleTicket = ⊥
NotLooked v s NotReady = ⊥
NotLooked v s TooManyEvents = ⊥
NotLooked v s KnownDriver = ⊥

-- the flight's last look at each supplier found it BOUND
abbrev pub HasSeenAll : List PlannedDevice → Flight → Type 0
HasSeenAll plan f = (s : ℕ) → Has (suppliers_of plan f.device) s → last_look f.looks s ≡ Some true

-- `settle` ended the flight: its device settled by its verdict, last in the history so far
pub record SettledBy (v w : View) (reply : Reply) : Type 0 where
  pub log : History
  pub flight : Flight
  pub open_was : v.flight ≡ Some flight
  pub ready : HasSeenAll v.plan flight
  pub reply_is : reply ≡ settled_reply (outcome_by (verdict_of v.plan flight.device))
  pub view : w ≡ settled_by v log flight.device
  pub front : IsFront v.seen log
  pub lawful : IsBusHistory v.plan w.seen
  pub made : made w ≡ made v ++ settle_of v.plan flight.device ∷ []

abbrev pub NotSettled : View → Refusal → Type 0
NotSettled v NotInFlight = v.flight ≡ None
NotSettled v NotReady = (f : Flight) × (v.flight ≡ Some f) × ((s : ℕ) × Has (suppliers_of v.plan f.device) s × (last_look f.looks s ≢ Some true))
NotSettled v NoMemory = ⊥
NotSettled v NotIdle = ⊥
NotSettled v Unmatched = ⊥
NotSettled v StaleTicket = ⊥
NotSettled v WasBound = ⊥
NotSettled v TooManyEvents = ⊥
NotSettled v KnownDriver = ⊥

-- `defer` ended the flight: its device waits, and is owed
pub record DeferredOn (v w : View) (s : ℕ) : Type 0 where
  pub log : History
  pub flight : Flight
  pub open_was : v.flight ≡ Some flight
  pub supplier : Has (suppliers_of v.plan flight.device) s
  pub missed : last_look flight.looks s ≡ Some false
  pub view : w ≡ deferred v log flight.device
  pub front : IsFront v.seen log
  pub lawful : IsBusHistory v.plan log
  pub made : made w ≡ made v

abbrev pub NotDeferred : View → ℕ → Refusal → Type 0
NotDeferred v s NotInFlight = v.flight ≡ None
NotDeferred v s WasBound = (f : Flight) × (v.flight ≡ Some f) × (Has (suppliers_of v.plan f.device) s → last_look f.looks s ≢ Some false)
NotDeferred v s NoMemory = ⊥
NotDeferred v s NotIdle = ⊥
NotDeferred v s Unmatched = ⊥
NotDeferred v s StaleTicket = ⊥
NotDeferred v s NotReady = ⊥
NotDeferred v s TooManyEvents = ⊥
NotDeferred v s KnownDriver = ⊥

-- Debts were dropped, each by a step of its own, and these are left.
pub record Paid (v w : View) (left : List ℕ) : Type 0 where
  pub log : History
  pub view : w ≡ with_debts v log left
  pub front : IsFront v.seen log
  pub lawful : IsBusHistory v.plan log
  pub made : made w ≡ made v

abbrev pub Stands : History → Settle → Type 0
Stands h s = (i : ℕ) × (slice_get h i ≡ Some s)

-- `give_back` ended the seat of the view w: the other has seen the longer of the two fronts, and has the settles, claims and
-- passes of both
pub record JoinedBy (v w x : View) : Type 0 where
  pub view : x ≡ both v w
  pub left : IsFront v.seen x.seen
  pub right : IsFront w.seen x.seen
  pub lawful : IsBusHistory v.plan x.seen
  pub made_left : (s : Settle) → Stands (made v) s → Stands (made x) s
  pub made_right : (s : Settle) → Stands (made w) s → Stands (made x) s

-- a seat is given back once it has no flight and owes nothing
abbrev pub GivenBack : View → View → View → Type 0
GivenBack v w x = (w.flight ≡ None) × (w.owed ≡ []) × JoinedBy v w x

abbrev pub NotGivenBack : View → Refusal → Type 0
NotGivenBack w refusal = (refusal ≡ NotIdle) × ((w.flight ≢ None) ⊎ (w.owed ≢ []))

-- a board was opened over the core, with its first seat
abbrev pub IsOpenedOn : CoreValue → Posted → Seated → Type 0
IsOpenedOn core board seat = (board.plan ≡ core.plan) × IsOf board seat × (seat.view ≡ opener core)
