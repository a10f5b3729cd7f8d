-- How a seat's fields show its view.
use Rattle.std.specs.Prelude.{◌≡◌, ◌≢◌, ◌<◌, ◌≤◌, ◌+◌, ℕ, Bool, true, length, List, [], map, Option, Some, None, slice_index}
use Rattle.atomic_table.specs.Table.{Me}
use Rattle.bus_plan.specs.Plan.{PlannedDevice, suppliers_of}
use Rattle.bus_core.specs.History.{IsBusHistory}
use Rattle.bus_board.specs.Views.{last_look}
use Rattle.bus_board.specs.Private.Looks.{noted_looks}
use Rattle.bus_board.specs.declared.view.View.{View}
use Rattle.bus_board.specs.declared.view.Flight.{Flight}
use Rattle.bus_board.specs.declared.flight.Open.{Open}

-- each supplier of the device, with the flight's last look at it
abbrev pub looks_at : List (ℕ × Bool) → List ℕ → List (ℕ × Option Bool)
looks_at looks ss = map (λ s. (s, last_look looks s)) ss

abbrev pub Carries : List PlannedDevice → Option Flight → Option Open → Type 0
Carries p None None = Unit {0}
Carries p None (Some o) = ⊥
Carries p (Some f) None = ⊥
Carries p (Some f) (Some o) = (f.device < length p) × (o.device ≡ f.device) × (o.looks.items ≡ looks_at f.looks (suppliers_of p f.device))

-- the debts that stand in a seat, and how many more it has room for while it has a flight
pub record IsTied (m : Me (Unit {0}) View) (open_flight : Option Open) (owed : List ℕ) (count room : ℕ) : Type 0 where
  pub slots : m.1 ≡ []
  pub live : m.0.live ≡ true
  pub lawful : IsBusHistory m.0.plan m.0.seen
  pub flight : Carries m.0.plan m.0.flight open_flight
  pub debts : m.0.owed ≡ owed
  pub within : (i : ℕ) → i < length owed → slice_index owed i < length m.0.plan
  pub roomy : open_flight ≢ None → count + length m.0.plan ≤ room

abbrev pub FlightAfter : ℕ → Bool → Option Open → Option Open → Type 0
FlightAfter s b None None = Unit {0}
FlightAfter s b None (Some y) = ⊥
FlightAfter s b (Some x) None = ⊥
FlightAfter s b (Some x) (Some y) = (y.device ≡ x.device) × (y.looks.items ≡ noted_looks s b x.looks.items)
