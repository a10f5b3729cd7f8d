-- How a board ends.
use Rattle.std.specs.Prelude.{◌≡◌, ◌≢◌, ◌==◌, ◌⊎◌, ℕ, ◌+◌, ◌<◌, Bool, true, false, not, if◌then◌else◌, List, length, Option, Some, None, slice_index}
use Rattle.std.specs.List.{list_all}
use mathlib.Core.Option.{some}
use lib.ListN.{get_elem?}
use Rattle.bus_plan.specs.Plan.{PlannedDevice, suppliers_of, is_matched}
use Rattle.bus_core.specs.Due.{devices}
use Rattle.bus_core.specs.History.{IsBusHistory, bound_in, is_settled}
use Rattle.bus_core.specs.Least.{IsLeast}
use Rattle.bus_core.specs.Ready.{is_ready}
use Rattle.bus_board.specs.Lists.{Among}
use Rattle.bus_board.specs.Opening.{was_begun}
use Rattle.bus_board.specs.Outcomes.{History, outcome_of, IsFront}
use Rattle.bus_board.specs.Rule.{Kept, begins_before}
use Rattle.bus_board.specs.Shares.{IsWhole}
use Rattle.bus_board.specs.Views.{claims, owes}
use Rattle.bus_board.specs.Words.{FRESH, number_of, word_at, is_bound_word, settled_as}
use Rattle.bus_board.specs.declared.view.Flight.{Flight}
use Rattle.bus_board.specs.declared.view.View.{View}
use Rattle.bus_board.specs.declared.words.Word.{Word}
use Rattle.bus_board.specs.declared.words.Word.TheVariants.{Fresh, Trying, Waiting, Woken, Retrying, Bound, Failed, Unmatched}

-- whether each supplier's word is BOUND
abbrev pub suppliers_bound : List PlannedDevice → List Word → ℕ → Bool
suppliers_bound plan words d = list_all (λ s. is_bound_word (word_at words s)) (suppliers_of plan d)

-- nothing is left to do for a device with this word: it isn't FRESH, TRYING, WOKEN or RETRYING, and if it is WAITING, not all
-- of its suppliers are bound
abbrev pub is_still : Word → Bool → Bool
is_still Fresh all_bound = false
is_still Trying all_bound = false
is_still Waiting all_bound = not all_bound
is_still Woken all_bound = false
is_still Retrying all_bound = false
is_still Bound all_bound = true
is_still Failed all_bound = true
is_still Unmatched all_bound = true

abbrev pub is_quiet : List PlannedDevice → List Word → Bool
is_quiet plan words = list_all (λ d. is_still (word_at words d) (suppliers_bound plan words d)) (devices plan)

-- a device's word where nothing is left to do: of those with a driver, a bound one is BOUND, one that is ready and still isn't
-- bound is FAILED, and each other one is WAITING
abbrev pub rest_word : List PlannedDevice → (ℕ → Bool) → ℕ → Word
rest_word plan bound d = if is_matched plan d then (if bound d then Bound else (if is_ready plan bound d then Failed else Waiting)) else Unmatched

-- the word of a device in flight, and this one where it isn't
abbrev pub flown_word : Option Flight → ℕ → Word → Word
flown_word None d grounded = grounded
flown_word (Some f) d grounded = if f.device == d then (if f.again then Retrying else Trying) else grounded

-- how often the device was begun, before the board was opened or by the seat
abbrev pub begins_told : View → ℕ → ℕ
begins_told v d = claims d FRESH v + begins_before v.plan v.opening d

-- the word of a device of a board with one seat, which doesn't owe it: it follows from the seat's view
abbrev pub told_word : View → ℕ → Word
told_word v d =
    if bound_in v.seen d then Bound
    else (if is_settled v.seen d then Failed
    else (if not (is_matched v.plan d) then Unmatched
    else flown_word v.flight d
    (if begins_told v d == 0 then Fresh
    else (if is_ready v.plan (bound_in v.seen) d then Woken
    else Waiting))))

-- the seat has seen all of the history, and each word of a device that it doesn't owe follows from its view
abbrev pub TellsAll : View → History → List Word → Type 0
TellsAll v log words = (v.seen ≡ log) × ((d : ℕ) → d < length v.plan → owes d v ≡ 0 → word_at words d ≡ told_word v d)

-- the words are told as they stood: their numbers and views of seats, this one's among them, keep the rule of the board
pub record Stood (plan : List PlannedDevice) (log : History) (v : View) (words : List Word) : Type 0 where
  pub numbers : List ℕ
  pub views : List View
  pub kept : Kept plan numbers views
  pub log_is : kept.log ≡ log
  pub seat : (j : ℕ) × (get_elem? views j ≡ some v)
  pub told : (d : ℕ) → d < length plan → slice_index numbers d ≡ number_of (word_at words d)

-- the device was begun before the board was opened, or by the seat itself or one that was given back to it
abbrev pub HasBegun : List PlannedDevice → View → ℕ → Type 0
HasBegun plan v d = (was_begun plan v.opening d ≡ true) ⊎ Among v.claimed d FRESH

-- As far as the seat knows nothing is left to do: each device with a driver was begun, it has no flight, and each device that is
-- ready for what it has seen has settled there.
pub record IsDone (plan : List PlannedDevice) (v : View) : Type 0 where
  pub begun : (d : ℕ) → is_matched plan d ≡ true → HasBegun plan v d
  pub idle : v.flight ≡ None
  pub settled : (d : ℕ) → is_ready plan (bound_in v.seen) d ≡ true → is_settled v.seen d ≡ true

-- The words at the end keep the rule of the board, and tell the outcomes of a history of the bus that begins with what the seat
-- has seen. No device is FRESH that the seat passed from FRESH. Where the seat is the only one, as its share is the whole, all of
-- this follows from its view. The board is quiet where the seat knows that nothing is left to do; and where it is quiet, the BOUND
-- devices are the least set, and each word follows from them.
pub record EndsAs (plan : List PlannedDevice) (v : View) (words : List Word) (quiet : Bool) : Type 0 where
  pub log : History
  pub lawful : IsBusHistory plan log
  pub front : IsFront v.seen log
  pub stood : Stood plan log v words
  pub wide : length words ≡ length plan
  pub outcomes : (d : ℕ) → d < length plan → outcome_of log d ≡ settled_as (number_of (word_at words d))
  pub passed : (d : ℕ) → d < length plan → Among v.passed d FRESH → word_at words d ≢ Fresh
  pub sole : IsWhole v.share → TellsAll v log words
  pub quiet_is : quiet ≡ is_quiet plan words
  pub done : IsDone plan v → quiet ≡ true
  pub least : quiet ≡ true → IsLeast plan (λ d. is_bound_word (word_at words d))
  pub at_rest : quiet ≡ true → (d : ℕ) → d < length plan → word_at words d ≡ rest_word plan (λ s. is_bound_word (word_at words s)) d
