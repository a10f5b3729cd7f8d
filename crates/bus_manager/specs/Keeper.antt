-- A keeper as contracts see it, and what holds of every keeper.
use Rattle.std.specs.Prelude.{◌≡◌, ◌≤◌, ◌+◌, ℕ, true, false, List, [], ◌∷◌, ◌++◌, None, Ok, length, count_by, All}
use Rattle.bus_plan.specs.LateDriver.{with_driver}
use Rattle.bus_plan.specs.Plan.{PlannedDevice}
use Rattle.bus_core.specs.declared.event.Event.{Event}
use Rattle.bus_core.specs.declared.event.Event.TheVariants.{Begin, Finish, Abandon, Register}
use Rattle.bus_core.specs.declared.event.Report.{Report}
use Rattle.bus_core.specs.declared.event.Ticket.{Ticket}
use Rattle.bus_core.specs.declared.refusal.Refusal.{Refusal}
use Rattle.bus_core.specs.CoreState.{CoreState, CoreValue, first_core, first_state}
use Rattle.bus_core.specs.Due.{is_due}
use Rattle.bus_core.specs.History.{bound_in}
use Rattle.bus_core.specs.Replay.{replay_of, IsEventOf}
use Rattle.bus_core.specs.Step.{IsRefused, begin_refusal, begin_state, finish_state, without_flight, registered_state}
use Rattle.bus_manager.specs.Events.{is_begin, is_register, is_begin_of, is_abandon_of, are_of_due}
use Rattle.bus_manager.specs.Seen.{sees}

-- a core's plan with the drivers so far, its state, and the events that it accepted
pub record KeeperValue : Type 0 where
  pub plan : List PlannedDevice
  pub state : CoreState
  pub events : List Event

abbrev pub core_of : KeeperValue → CoreValue
core_of k = record { plan = k.plan; state = k.state }

-- Its core is the replay of its events over the plan that it began with; each begin was of a device that was due then; a device has at most two begins
-- more than abandons of it; where no driver came late that is its plan. The others say the same of counts and
-- places, for those who add up.
pub record IsKept (k : KeeperValue) : Type 0 where
  pub first : List PlannedDevice
  pub replayed : replay_of first k.events ≡ Ok (core_of k)
  pub due : are_of_due (first_core first) k.events ≡ true
  pub begins : (d : ℕ) → count_by (is_begin_of d) k.events ≤ 2 + count_by (is_abandon_of d) k.events
  pub unregistered : count_by is_register k.events ≡ 0 → k.plan ≡ first
  pub long : length k.plan ≡ length first
  pub within : All (IsEventOf first) k.events
  pub counted : k.state.begins ≡ count_by is_begin k.events
  pub places : length k.state.flights ≡ length k.plan

-- the keepers before any event, and after each kind of event
abbrev pub first_keeper : List PlannedDevice → KeeperValue
first_keeper plan = record { plan = plan; state = first_state plan; events = [] }

abbrev pub begun_keeper : KeeperValue → ℕ → KeeperValue
begun_keeper k d = record { plan = k.plan; state = begin_state k.state d; events = k.events ++ Begin d ∷ [] }

abbrev pub finished_keeper : KeeperValue → ℕ → Report → KeeperValue
finished_keeper k d report = record { plan = k.plan; state = finish_state k.plan k.state d report; events = k.events ++ Finish d report ∷ [] }

abbrev pub abandoned_keeper : KeeperValue → ℕ → KeeperValue
abandoned_keeper k d = record { plan = k.plan; state = without_flight k.state d; events = k.events ++ Abandon d ∷ [] }

-- the plan gains the driver where it matches a device that has none
abbrev pub registered_keeper : KeeperValue → List ℕ → List (List ℕ) → KeeperValue
registered_keeper k name strings = record {
  plan = with_driver k.plan name strings;
  state = registered_state k.state name;
  events = k.events ++ Register name strings ∷ [];
}

-- a due device was begun, and this is its ticket, with the devices that were bound then
pub record IsTaken (old new : KeeperValue) (ticket : Ticket) (seen : List ℕ) : Type 0 where
  pub due : is_due old.plan old.state ticket.device ≡ true
  pub allowed : begin_refusal old.plan old.state ticket.device ≡ None
  pub attempt : ticket.attempt ≡ old.state.begins + 1
  pub seen_is : (d : ℕ) → sees seen d ≡ bound_in old.state.history d
  pub begun : new ≡ begun_keeper old ticket.device

-- nothing is due, and nothing was done
abbrev pub IsNoneDue : KeeperValue → KeeperValue → Type 0
IsNoneDue old new = (new ≡ old) × ((d : ℕ) → is_due old.plan old.state d ≡ false)

-- the begin of a due device was refused, or memory for one that wasn't
pub record IsTakeRefused (old : KeeperValue) (refusal : Refusal) : Type 0 where
  pub device : ℕ
  pub due : is_due old.plan old.state device ≡ true
  pub refused : IsRefused (begin_refusal old.plan old.state device) refusal
