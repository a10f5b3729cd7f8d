-- How contracts see a keeper, and what holds of its fields.
use Rattle.std.specs.Prelude.{◌≡◌, ◌≤◌, ◌+◌, ℕ, Bool, false, ◌&&◌, ◌||◌, List, length, count_by, vec_len, vec_capacity}
use Rattle.bus_plan.specs.Plan.{PlannedDevice}
use Rattle.bus_core.specs.CoreState.{CoreState, CoreValue, is_in_flight, was_begun}
use Rattle.bus_core.specs.History.{bound_in, is_settled}
use Rattle.bus_core.specs.Ready.{is_ready}
use Rattle.bus_core.specs.Step.{bound_at_begin}
use Rattle.bus_core.specs.declared.event.Event.{Event}
use Rattle.bus_manager.specs.declared.keeper.Keeper.TheInside.{Inside}
use Rattle.bus_manager.specs.Events.{is_begin_of, is_abandon_of}
use Rattle.bus_manager.specs.Keeper.{KeeperValue, IsKept}
use Rattle.bus_manager.specs.Private.Counts.{open_flights}
use Rattle.bus_manager.specs.Seen.{sees}

-- a device that has settled, or is in a flight at whose begin all its suppliers were bound: it isn't begun again, unless
-- that flight is abandoned
abbrev pub is_late : List PlannedDevice → CoreState → ℕ → Bool
is_late plan s d = is_settled s.history d || (is_in_flight s d && is_ready plan (bound_at_begin s d) d)

-- why a device has no third begin: one that isn't late has at most one, and one never begun none
pub record IsBounded (plan : List PlannedDevice) (s : CoreState) (events : List Event) (d : ℕ) : Type 0 where
  pub top : count_by (is_begin_of d) events ≤ 2 + count_by (is_abandon_of d) events
  pub low : is_late plan s d ≡ false → count_by (is_begin_of d) events ≤ 1 + count_by (is_abandon_of d) events
  pub fresh : was_begun s d ≡ false → count_by (is_begin_of d) events ≡ 0

-- a core, the events that it accepted, the set of its bound devices, and the number of its open flights
pub record IsSoundKeeper (core : CoreValue) (events : List Event) (bound : List ℕ) (flying : ℕ) : Type 0 where
  pub kept : IsKept (record { plan = core.plan; state = core.state; events = events })
  pub bounded : (d : ℕ) → IsBounded core.plan core.state events d
  pub bound_is : (d : ℕ) → sees bound d ≡ bound_in core.state.history d
  pub begun : length core.state.begun ≡ length core.plan
  pub flying_is : flying ≡ open_flights core.state

abbrev pub keeper_value : Inside → KeeperValue
keeper_value k = record { plan = k.core.plan; state = k.core.state; events = k.events.items }

-- there is room for the end of each flight
pub record IsKeeper (k : Inside) : Type 0 where
  pub sound : IsSoundKeeper k.core k.events.items k.bound k.flying
  pub room : vec_len k.events + k.flying ≤ vec_capacity k.events
