-- What a board is opened with: a core with no open flight.
use Rattle.std.specs.Prelude.{◌≡◌, ℕ, ◌+◌, ◌<◌, Bool, true, false, not, ◌&&◌, if◌then◌else◌, List, [], length, slice_index, slice_index_or}
use Rattle.bus_plan.specs.Plan.{PlannedDevice, is_matched}
use Rattle.bus_core.specs.CoreState as state
use Rattle.bus_core.specs.CoreState.{CoreState, CoreValue}
use Rattle.bus_core.specs.History.{bound_in, is_settled}
use Rattle.bus_core.specs.Parting.{has_flight}
use Rattle.bus_core.specs.Ready.{is_ready}
use Rattle.bus_core.specs.declared.refusal.Refusal.{Refusal}
use Rattle.bus_core.specs.declared.refusal.Refusal.TheVariants.{NoMemory, NotIdle, Unmatched, StaleTicket, NotReady, WasBound, TooManyEvents, NotInFlight, KnownDriver}
use Rattle.bus_board.specs.Words.{number_of}
use Rattle.bus_board.specs.declared.view.Opening.{Opening}
use Rattle.bus_board.specs.declared.words.Word.{Word}
use Rattle.bus_board.specs.declared.words.Word.TheVariants as word

-- what the core had settled and begun
abbrev pub opening_of : CoreState → Opening
opening_of s = record { history = s.history; begun = s.begun }

-- nothing
abbrev pub nothing_before : Opening
nothing_before = record { history = []; begun = [] }

-- whether the device, which has a driver, was begun before
abbrev pub was_begun : List PlannedDevice → Opening → ℕ → Bool
was_begun plan opening d = is_matched plan d && slice_index_or opening.begun d false

-- The word of a device of a core that hasn't settled: UNMATCHED where it isn't available or no driver matches so far, FRESH where
-- it was never begun, WOKEN where it was begun and is ready, and else WAITING.
abbrev pub idle_word : CoreValue → ℕ → Word
idle_word core d =
    if not (is_matched core.plan d) then word.Unmatched
    else (if not (state.was_begun core.state d) then word.Fresh
    else (if is_ready core.plan (bound_in core.state.history) d then word.Woken
    else word.Waiting))

-- the word by which a board goes on with a device of a core
abbrev pub opening_word : CoreValue → ℕ → Word
opening_word core d =
    if bound_in core.state.history d then word.Bound
    else (if is_settled core.state.history d then word.Failed
    else idle_word core d)

-- the words at the start: one for each device, and one to spare
abbrev pub AreFirst : CoreValue → List ℕ → Type 0
AreFirst core words = (length words ≡ length core.plan + 1) × ((d : ℕ) → d < length core.plan → slice_index words d ≡ number_of (opening_word core d))

-- why a core isn't opened as a board: a flight is open, or there is no memory
abbrev pub NotOpened : CoreState → Refusal → Type 0
NotOpened s NotIdle = has_flight s ≡ true
NotOpened s NoMemory = has_flight s ≡ false
NotOpened s Unmatched = ⊥
NotOpened s StaleTicket = ⊥
NotOpened s NotReady = ⊥
NotOpened s WasBound = ⊥
NotOpened s TooManyEvents = ⊥
NotOpened s NotInFlight = ⊥
NotOpened s KnownDriver = ⊥
