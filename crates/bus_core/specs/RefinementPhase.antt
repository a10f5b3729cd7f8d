-- What the core keeps of one device, and how contracts see it. No public clause cites it.
use Rattle.std.specs.Prelude.{ℕ, Bool, true, false, nat_lt, not, ◌||◌, is_some, if◌then◌else◌, List, [], Option, Some, None, slice_index_or, map}
use Rattle.bus_plan.specs.Plan.{PlannedDevice, is_available, is_matched}
use Rattle.bus_core.specs.declared.phase.Phase.{Phase}
use Rattle.bus_core.specs.declared.phase.Phase.TheVariants.{Fresh, Begun, InFlight, Bound, Failed}
use Rattle.bus_core.specs.declared.settle.Outcome.{Outcome}
use Rattle.bus_core.specs.declared.settle.Outcome.TheVariants as outcome
use Rattle.bus_core.specs.declared.settle.Settle.{Settle}
use Rattle.bus_core.specs.declared.status.Status.{Status}
use Rattle.bus_core.specs.declared.status.Status.TheVariants as status
use Rattle.bus_core.specs.CoreState.{CoreState, Flight}
use Rattle.bus_core.specs.Due.{is_due}
use Rattle.bus_core.specs.Ready.{is_ready}

abbrev pub phase_at : List Phase → ℕ → Phase
phase_at phases d = slice_index_or phases d Fresh

abbrev pub flight_in : Phase → Option Flight
flight_in Fresh = None
flight_in Begun = None
flight_in (InFlight attempt settled) = Some (record { attempt = attempt; settled = settled })
flight_in (Bound place) = None
flight_in Failed = None

abbrev pub begun_in : Phase → Bool
begun_in Fresh = false
begun_in Begun = true
begun_in (InFlight attempt settled) = true
begun_in (Bound place) = true
begun_in Failed = true

abbrev pub settled_in : Phase → Bool
settled_in Fresh = false
settled_in Begun = false
settled_in (InFlight attempt settled) = false
settled_in (Bound place) = true
settled_in Failed = true

abbrev pub bound_now : Phase → Bool
bound_now Fresh = false
bound_now Begun = false
bound_now (InFlight attempt settled) = false
bound_now (Bound place) = true
bound_now Failed = false

-- whether the device was bound among the first n that settled
abbrev pub bound_before : ℕ → Phase → Bool
bound_before n Fresh = false
bound_before n Begun = false
bound_before n (InFlight attempt settled) = false
bound_before n (Bound place) = nat_lt place n
bound_before n Failed = false

-- the phase of a device that settles at this place of the history
abbrev pub settled_phase : ℕ → Outcome → Phase
settled_phase place outcome.Bound = Bound place
settled_phase place outcome.Failed = Failed

-- the devices that the phases call bound
abbrev pub bound_by : List Phase → ℕ → Bool
bound_by phases d = bound_now (phase_at phases d)

-- neither in flight nor settled
abbrev pub idle_in : Phase → Bool
idle_in phase = not (is_some (flight_in phase) || settled_in phase)

-- whether a device in this phase is due
abbrev pub due_in : Phase → Bool → Bool → Bool
due_in Fresh matched ready = matched
due_in Begun matched ready = ready
due_in (InFlight attempt settled) matched ready = false
due_in (Bound place) matched ready = false
due_in Failed matched ready = false

abbrev pub due_by : List PlannedDevice → List Phase → ℕ → Bool
due_by plan phases d = due_in (phase_at phases d) (is_matched plan d) (is_ready plan (bound_by phases) d)

-- the status of an idle device, and of any device by its phase
abbrev pub idle_status : Bool → Bool → Bool → Status
idle_status available matched due =
    if not available then status.Disabled
    else (if not matched then status.Unmatched
    else (if due then status.Due
    else status.Waiting))

-- the status of an idle device in a state
abbrev pub idle_status_of : List PlannedDevice → CoreState → ℕ → Status
idle_status_of plan s d = idle_status (is_available plan d) (is_matched plan d) (is_due plan s d)

abbrev pub status_in : Phase → Bool → Bool → Bool → Status
status_in Fresh available matched due = idle_status available matched due
status_in Begun available matched due = idle_status available matched due
status_in (InFlight attempt settled) available matched due = status.Probing
status_in (Bound place) available matched due = status.Bound
status_in Failed available matched due = status.Failed

abbrev pub status_by : List PlannedDevice → List Phase → ℕ → Status
status_by plan phases d = status_in (phase_at phases d) (is_available plan d) (is_matched plan d) (due_by plan phases d)

-- the state that the phases and the history tell, but for the names registered
abbrev pub state_of : List Phase → List Settle → ℕ → CoreState
state_of phases history begins =
    record { history = history; flights = map flight_in phases; begun = map begun_in phases; begins = begins; registered = [] }
