-- The state of the probing core as contracts see it.
use Rattle.std.specs.Prelude.{ℕ, Bool, false, List, [], Option, None, is_some, length, slice_index_or, replicate}
use Rattle.bus_plan.specs.Plan.{PlannedDevice}
use Rattle.bus_core.specs.declared.settle.Settle.{Settle}

-- a probe that has begun and not ended: the number of its begin, and how many devices had settled then
pub record Flight : Type 0 where
  pub attempt : ℕ
  pub settled : ℕ

-- flights and begun have one place a device; the names of the drivers that came late stand in their order
pub record CoreState : Type 0 where
  pub history : List Settle
  pub flights : List (Option Flight)
  pub begun : List Bool
  pub begins : ℕ
  pub registered : List (List ℕ)

-- a core: its plan with the drivers so far, and its state
pub record CoreValue : Type 0 where
  pub plan : List PlannedDevice
  pub state : CoreState

abbrev pub flight_of : CoreState → ℕ → Option Flight
flight_of s d = slice_index_or s.flights d None

abbrev pub is_in_flight : CoreState → ℕ → Bool
is_in_flight s d = is_some (flight_of s d)

abbrev pub was_begun : CoreState → ℕ → Bool
was_begun s d = slice_index_or s.begun d false

-- nothing begun
abbrev pub first_state : List PlannedDevice → CoreState
first_state plan =
    record { history = []; flights = replicate (length plan) None; begun = replicate (length plan) false; begins = 0; registered = [] }

abbrev pub first_core : List PlannedDevice → CoreValue
first_core plan = record { plan = plan; state = first_state plan }

-- the state with these names registered
abbrev pub with_names : CoreState → List (List ℕ) → CoreState
with_names s names =
    record { history = s.history; flights = s.flights; begun = s.begun; begins = s.begins; registered = names }

-- the core in another state
abbrev pub with_state : CoreValue → CoreState → CoreValue
with_state core s = record { plan = core.plan; state = s }
