-- What a worker's seat has while it probes a device, and when it leaves.
use Rattle.std.specs.Prelude.{◌≡◌, ℕ, ◌<◌, Bool, List, [], length, Some, None, slice_get}
use Rattle.bus_board.specs.Shown.{Posted, Seated, IsOf}
use Rattle.bus_board.specs.Views.{last_look}
use Rattle.bus_board.specs.declared.view.View.{View}
use Rattle.bus_board.specs.declared.view.Flight.{Flight}
use Rattle.bus_plan.specs.Plan.{PlannedDevice}
use Rattle.bus_core.specs.declared.event.Report.{Report}
use Rattle.bus_manager.specs.declared.seats.Worked.{Worked}
use Rattle.bus_manager.specs.Private.Notes.{AreAttested}
use Rattle.bus_manager.specs.Seen.{sees}

-- a flight of the device, whose last look at each of the first n of these suppliers found what the set says
pub record HasLooked (v : View) (d : ℕ) (seen : List ℕ) (suppliers : List ℕ) (n : ℕ) : Type 0 where
  pub flight : Flight
  pub open_was : v.flight ≡ Some flight
  pub device : flight.device ≡ d
  pub saw : (i s : ℕ) → i < n → slice_get suppliers i ≡ Some s → last_look flight.looks s ≡ Some (sees seen s)

-- and that at each of them
abbrev pub HasLookedAll : View → ℕ → List ℕ → List ℕ → Type 0
HasLookedAll v d seen suppliers = HasLooked v d seen suppliers (length suppliers)

-- no flight and no debt
abbrev pub IsIdle : View → Type 0
IsIdle v = (v.flight ≡ None) × (v.owed ≡ [])

-- the seat belongs to the board, and may be given back
abbrev pub IsFree : Posted → Seated → Type 0
IsFree board seat = IsOf board seat × IsIdle seat.view

-- the seat belongs to the board, and has taken the device of the plan
pub record HasTaken (board : Posted) (seat : Seated) (d : ℕ) : Type 0 where
  pub of : IsOf board seat
  pub within : d < length board.plan
  pub looked : HasLooked seat.view d [] [] 0
  pub owed : seat.view.owed ≡ []

-- what a worker has and leaves: a free seat of the board, and notes that show their devices
abbrev pub IsWorked : {N : Type 0} → (ℕ → (ℕ → Bool) → Report → N → Type 0) → List PlannedDevice → Posted → Worked N → Type 0
IsWorked attests plan board worked = IsFree board worked.seat × AreAttested attests plan worked.notes.items
