-- What holds of a board between any two steps, over the words and all views: the eight clauses of the board.
use Rattle.std.specs.Prelude.{◌≡◌, ◌≢◌, ◌↔◌, ◌⊎◌, ℕ, suc, ◌+◌, ◌<◌, ◌≤◌, ◌^◌, true, false, if◌then◌else◌, List, [], ◌∷◌, length, take, Option, Some, None, slice_index}
use mathlib.Core.Option.{some}
use lib.ListN.{get_elem?}
use Rattle.atomic_table.specs.Table.{State}
use Rattle.bus_plan.specs.Plan.{PlannedDevice, is_matched}
use Rattle.bus_core.specs.declared.settle.Outcome.{Outcome}
use Rattle.bus_core.specs.declared.settle.Outcome.TheVariants.{Bound}
use Rattle.bus_core.specs.CoreState.{CoreValue}
use Rattle.bus_core.specs.History.{IsBusHistory, bound_in}
use Rattle.bus_core.specs.Ready.{is_ready}
use Rattle.bus_board.specs.Lists.{times, Among, total}
use Rattle.bus_board.specs.Opening.{AreFirst, was_begun}
use Rattle.bus_board.specs.Outcomes.{History, outcome_of, AllBound, IsFront}
use Rattle.bus_board.specs.Shares.{parts_at}
use Rattle.bus_board.specs.Views.{last_look, claims, flies, owes, spent}
use Rattle.bus_board.specs.Words.{FRESH, WAITING, WOKEN, UNMATCHED, settled_as, flights_of, flying_word, claimed_word, begins_of, most_retries, IsRetried}
use Rattle.bus_board.specs.declared.view.Opening.{Opening}
use Rattle.bus_board.specs.declared.view.View.{View}
use Rattle.bus_board.specs.declared.view.Flight.{Flight}

-- A flight (clauses 2, 4 and 5): its word is TRYING, or RETRYING where it was claimed from WOKEN. Suppliers seen BOUND are
-- bound in what its seat has seen; a missed one wasn't bound at its claim; a retried device was ready then.
pub record FlightFits (plan : List PlannedDevice) (log : History) (words : List ℕ) (seen : History) (f : Flight) : Type 0 where
  pub within : f.device < length plan
  pub at : f.at ≤ length log
  pub word : slice_index words f.device ≡ flying_word f.again
  pub matched : is_matched plan f.device ≡ true
  pub bound : (s : ℕ) → last_look f.looks s ≡ Some true → outcome_of seen s ≡ Some Bound
  pub missed : (s : ℕ) → last_look f.looks s ≡ Some false → outcome_of (take f.at log) s ≢ Some Bound
  pub retried : f.again ≡ true → is_ready plan (bound_in (take f.at log)) f.device ≡ true

-- A view (clauses 1, 3 and 7): what it has seen is a front of the history, its own settles are among those, a device that it
-- has claimed or passed from FRESH isn't FRESH, and one claimed from WOKEN is RETRYING, BOUND or FAILED. It has claimed the
-- device of its flight.
pub record Fits (plan : List PlannedDevice) (log : History) (words : List ℕ) (v : View) : Type 0 where
  pub plan_is : v.live ≡ true → v.plan ≡ plan
  pub seen : IsFront v.seen log
  pub told : IsFront v.told log
  pub mine : (d : ℕ) → outcome_of v.seen d ≡ None → times d v.mine ≡ 0
  pub claimed : (d w : ℕ) → Among v.claimed d w → slice_index words d ≢ FRESH
  pub retried : (d : ℕ) → Among v.claimed d WOKEN → IsRetried (slice_index words d)
  pub passed : (d : ℕ) → Among v.passed d FRESH → slice_index words d ≢ FRESH
  pub flight : (f : Flight) → v.flight ≡ Some f → FlightFits plan log words v.seen f
  pub begun : (f : Flight) → v.flight ≡ Some f → Among v.claimed f.device (claimed_word f.again)

-- how often the device was begun before the board was opened
abbrev pub begins_before : List PlannedDevice → Opening → ℕ → ℕ
begins_before plan opening d = if was_begun plan opening d then 1 else 0

-- The word of a device (clauses 1, 2, 5, 6 and 7): it tells the device's outcome in the history, and one flight exactly where it
-- is TRYING or RETRYING; it is UNMATCHED exactly where no driver matches, and FRESH exactly where one does and the device wasn't
-- begun, neither before the board was opened nor by a seat, which is claimed it from FRESH; else it was, once. No two seats claim
-- it from WOKEN. A WOKEN device is ready; a WAITING one whose suppliers are all bound is owed by some seat.
pub record Tells (plan : List PlannedDevice) (opening : Opening) (log : History) (views : List View) (d w : ℕ) : Type 0 where
  pub small : w ≤ UNMATCHED
  pub settled : outcome_of log d ≡ settled_as w
  pub flown : total (flies d) views ≡ flights_of w
  pub begun : total (claims d FRESH) views + begins_before plan opening d ≡ begins_of w
  pub retried : total (claims d WOKEN) views ≤ most_retries w
  pub unmatched : w ≡ UNMATCHED → is_matched plan d ≡ false
  pub matched : is_matched plan d ≡ false → w ≡ UNMATCHED
  pub woken : w ≡ WOKEN → is_ready plan (bound_in log) d ≡ true
  pub waiting : w ≡ WAITING → AllBound plan log d → 0 < total (owes d) views

abbrev pub settled_times : Option Outcome → ℕ
settled_times None = 0
settled_times (Some o) = 1

-- some seat has seen all of the history, which so is the longest list that any seat has seen
abbrev pub SeenBySome : List View → History → Type 0
SeenBySome views log = (j : ℕ) × (v : View) × (get_elem? views j ≡ some v) × (v.seen ≡ log)

-- each seat knows with what the board was opened
abbrev pub KnowOpening : List View → Opening → Type 0
KnowOpening views opening = (j : ℕ) (v : View) → get_elem? views j ≡ some v → v.live ≡ true → v.opening ≡ opening

-- a view that isn't spent is a seat's, which has a share of the board
abbrev pub HasShare : ℕ → View → Type 0
HasShare n v = (v ≡ spent) ⊎ ((v.live ≡ true) × (0 < v.share.parts) × (v.share.halvings ≤ n))

-- Which seats there are (clause 8): the shares of all of them together are the whole board. So a seat that has the whole is the
-- only one.
pub record AreAll (views : List View) : Type 0 where
  pub halvings : ℕ
  pub each : (j : ℕ) (v : View) → get_elem? views j ≡ some v → HasShare halvings v
  pub whole : total (λ v. parts_at halvings v.share) views ≡ 2 ^ halvings

-- The words and the views show a state of the core, whose history is one of the sequential bus and goes on from that with which
-- the board was opened, as each seat knows it. Each settle after those is one seat's own.
pub record Kept (plan : List PlannedDevice) (words : List ℕ) (views : List View) : Type 0 where
  pub opening : Opening
  pub log : History
  pub lawful : IsBusHistory plan log
  pub later : IsFront opening.history log
  pub opened : KnowOpening views opening
  pub seats : AreAll views
  pub whole : SeenBySome views log
  pub wide : length words ≡ suc (length plan)
  pub words_tell : (d : ℕ) → d < length plan → Tells plan opening log views d (slice_index words d)
  pub owned : (d : ℕ) → total (λ v. times d v.mine) views + settled_times (outcome_of opening.history d) ≡ settled_times (outcome_of log d)
  pub fits : (j : ℕ) (v : View) → get_elem? views j ≡ some v → Fits plan log words v

-- the board opens with the words of the core's devices: those and no others keep the rule while the first seat is the only one
abbrev pub OpensAs : CoreValue → View → Type 0
OpensAs core v = (words : List ℕ) → Kept core.plan words (v ∷ []) ↔ AreFirst core words

-- a board's table has no slots
abbrev pub Holds : List PlannedDevice → State (Unit {0}) View → Type 0
Holds plan s = Kept plan s.words s.views
