-- The seven kinds of atomic step. Each is told by the step, the seat before, the number found and the seat after, and changes
-- the view of its own seat alone.
use Rattle.std.specs.Prelude.{◌≡◌, ◌≢◌, ◌==◌, ℕ, true, [], ◌∷◌, Some, None}
use Rattle.atomic_table.specs.Table.{Me, Step}
use Rattle.bus_core.specs.declared.settle.Outcome.TheVariants.{Bound}
use Rattle.bus_plan.specs.Plan.{is_matched}
use Rattle.bus_core.specs.History.{IsBusHistory, IsBusStep, bound_in, is_settled}
use Rattle.bus_core.specs.Ready.{is_ready}
use Rattle.bus_core.specs.Step.{settle_of}
use Rattle.bus_board.specs.Ends.{HasBegun}
use Rattle.bus_board.specs.Lists.{times, Among}
use Rattle.bus_board.specs.Outcomes.{History, outcome_of, IsFront}
use Rattle.bus_board.specs.Shares.{IsWhole}
use Rattle.bus_board.specs.Words.{BOUND, FRESH, WOKEN}
use Rattle.bus_board.specs.Views.{claimed_by, passed_all, looked, settled_by, deferred, caught_up, relieved}
use Rattle.bus_board.specs.declared.view.View.{View}

abbrev pub Sat : Type 0
Sat = Me (Unit {0}) View

-- the history so far, of which the seat had seen a front, and all where it is the only one
pub record Sees (v : View) (log : History) : Type 0 where
  pub seen : IsFront v.seen log
  pub told : IsFront v.told log
  pub lawful : IsBusHistory v.plan log
  pub mine : (d : ℕ) → outcome_of v.seen d ≡ None → times d v.mine ≡ 0
  pub sole : IsWhole v.share → v.seen ≡ log

-- what the only seat learns of a device where it has no flight, owes nothing and loses a claim from the word w
abbrev pub IsPast : View → ℕ → ℕ → Type 0
IsPast v d w =
    (w ≡ FRESH → is_matched v.plan d ≡ true → HasBegun v.plan v d)
    × (w ≡ WOKEN → HasBegun v.plan v d → is_ready v.plan (bound_in v.seen) d ≡ true → is_settled v.seen d ≡ true)

-- 1, a claim: a compare-exchange, FRESH to TRYING or WOKEN to RETRYING
pub record Claims (st : Step (Unit {0})) (m : Sat) (r : ℕ) (n : Sat) : Type 0 where
  pub log : History
  pub sees : Sees m.0 log
  pub slots : n.1 ≡ m.1
  pub new : r ≡ st.first → ¬ Among m.0.claimed st.word st.first
  pub won : r ≡ st.first → n.0 ≡ claimed_by m.0 log st.word st.first
  pub lost : r ≢ st.first → n.0 ≡ passed_all m.0 log ((st.word, st.first) ∷ [])
  pub past : r ≢ st.first → IsWhole m.0.share → m.0.owed ≡ [] → IsPast m.0 st.word st.first

-- 2, a look: a load of a supplier's word
pub record Looks (st : Step (Unit {0})) (m : Sat) (r : ℕ) (n : Sat) : Type 0 where
  pub log : History
  pub sees : Sees m.0 log
  pub slots : n.1 ≡ m.1
  pub view : n.0 ≡ looked m.0 log st.word (r == BOUND)
  pub bound : r ≡ BOUND → outcome_of log st.word ≡ Some Bound
  pub not_bound : r ≢ BOUND → outcome_of m.0.seen st.word ≢ Some Bound

-- 3 and 4, a bind and a fail: a store, TRYING or RETRYING to BOUND or FAILED
pub record Settles (st : Step (Unit {0})) (m : Sat) (r : ℕ) (n : Sat) : Type 0 where
  pub log : History
  pub sees : Sees m.0 log
  pub slots : n.1 ≡ m.1
  pub view : n.0 ≡ settled_by m.0 log st.word
  pub follows : IsBusStep m.0.plan log (settle_of m.0.plan st.word)

-- 5, a defer: a store, TRYING to WAITING
pub record Defers (st : Step (Unit {0})) (m : Sat) (r : ℕ) (n : Sat) : Type 0 where
  pub log : History
  pub sees : Sees m.0 log
  pub slots : n.1 ≡ m.1
  pub view : n.0 ≡ deferred m.0 log st.word

-- 6, a check: a load of a supplier of the first owed device
pub record Checks (st : Step (Unit {0})) (m : Sat) (r : ℕ) (n : Sat) : Type 0 where
  pub log : History
  pub sees : Sees m.0 log
  pub slots : n.1 ≡ m.1
  pub bound : r ≡ BOUND → (n.0 ≡ caught_up m.0 log) × (outcome_of log st.word ≡ Some Bound)
  pub dropped : r ≢ BOUND → n.0 ≡ relieved m.0 log

-- 7, a wake: a compare-exchange of the first owed device's word, WAITING to WOKEN
pub record Wakes (st : Step (Unit {0})) (m : Sat) (r : ℕ) (n : Sat) : Type 0 where
  pub log : History
  pub sees : Sees m.0 log
  pub slots : n.1 ≡ m.1
  pub view : n.0 ≡ relieved m.0 log

-- a load that tells the history so far alone
pub record Notes (st : Step (Unit {0})) (m : Sat) (r : ℕ) (n : Sat) : Type 0 where
  pub log : History
  pub sees : Sees m.0 log
  pub slots : n.1 ≡ m.1
  pub view : n.0 ≡ m.0
