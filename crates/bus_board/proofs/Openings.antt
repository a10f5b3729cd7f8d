-- The words that a board begins with tell of the devices of its core.
use Rattle.std.proofs.Common.{◌≡◌, ◌≢◌, ◌⊎◌, inl, inr, ℕ, zero, suc, ◌≤◌, Bool, true, false, not, ◌&&◌, List, [], ◌∷◌, Option, Some, None, refl, sym, ap, ◌∙◌, arith, true≢false}
use Rattle.std.specs.Prelude.{if◌then◌else◌}
use Rattle.bus_plan.specs.Plan.{PlannedDevice, is_matched}
use Rattle.bus_core.proofs.HistoryLemmas.{bound-settled, ready-matched, settled-ready}
use Rattle.bus_core.specs.CoreState as state
use Rattle.bus_core.specs.CoreState.{CoreState, CoreValue}
use Rattle.bus_core.specs.History.{IsBusHistory, bound_in, is_settled}
use Rattle.bus_core.specs.Ready.{is_ready}
use Rattle.bus_core.specs.declared.settle.Outcome.{Outcome}
use Rattle.bus_core.specs.declared.settle.Outcome.TheVariants.{Bound, Failed}
use Rattle.bus_board.proofs.Histories.{bound_outcome, none_unsettled, outcome_bound, ready_as, ready_bound, unsettled_none}
use Rattle.bus_board.proofs.Moves.{settled_as-bound}
use Rattle.bus_board.specs.Lists.{total}
use Rattle.bus_board.specs.Opening.{opening_of, opening_word}
use Rattle.bus_board.specs.Outcomes.{History, outcome_of}
use Rattle.bus_board.specs.Rule.{Tells, begins_before}
use Rattle.bus_board.specs.Views.{claims, opener}
use Rattle.bus_board.specs.Words.{begins_of, flights_of, number_of, settled_as}
use Rattle.bus_board.specs.declared.words.Word.{Word}
use Rattle.bus_board.specs.declared.words.Word.TheVariants as word

-- the word, from what it is made of
abbrev word_by : Bool → Bool → Bool → Bool → Bool → Word
word_by b s m g r = if b then word.Bound else (if s then word.Failed else (if not m then word.Unmatched else (if not g then word.Fresh else (if r then word.Woken else word.Waiting))))

word_is : (core : CoreValue) (d : ℕ) (b s m g r : Bool) → bound_in core.state.history d ≡ b → is_settled core.state.history d ≡ s → is_matched core.plan d ≡ m
    → state.was_begun core.state d ≡ g → is_ready core.plan (bound_in core.state.history) d ≡ r → opening_word core d ≡ word_by b s m g r
word_is core d b s m g r eb es em eg er = λ i. word_by (eb i) (es i) (em i) (eg i) (er i)

before_is : (core : CoreValue) (d : ℕ) (m g : Bool) → is_matched core.plan d ≡ m → state.was_begun core.state d ≡ g
    → begins_before core.plan (opening_of core.state) d ≡ (if m && g then 1 else 0)
before_is core d m g em eg = λ i. if (em i && eg i) then 1 else 0

-- a device that has settled and isn't bound has failed
pub failed : (h : History) (d : ℕ) (o : Option Outcome) → outcome_of h d ≡ o → bound_in h d ≡ false → is_settled h d ≡ true → outcome_of h d ≡ Some Failed
failed h d None is eb es = absurd (true≢false (sym es ∙ none_unsettled h d is))
failed h d (Some Bound) is eb es = absurd (true≢false (sym (outcome_bound h d is) ∙ eb))
failed h d (Some Failed) is eb es = is

pub opening_tells : (core : CoreValue) (d : ℕ) → IsBusHistory core.plan core.state.history → ((d : ℕ) → is_settled core.state.history d ≡ true → state.was_begun core.state d ≡ true)
    → Tells core.plan (opening_of core.state) core.state.history (opener core ∷ []) d (number_of (opening_word core d))
opening_tells core d lawful begun =
    at (bound_in h d) (is_settled h d) (is_matched p d) (state.was_begun core.state d) (is_ready p (bound_in h) d) refl refl refl refl refl
  where
    p : List PlannedDevice
    p = core.plan

    h : History
    h = core.state.history

    T : ℕ → Type 0
    T = Tells p (opening_of core.state) h (opener core ∷ []) d

    none : total (claims d 0) (opener core ∷ []) ≡ 0
    none = refl

    -- a settled device has a driver and was begun
    matched : is_settled h d ≡ true → is_matched p d ≡ true
    matched settled = ready-matched p (bound_in h) d (settled-ready p h lawful d settled)

    once : is_settled h d ≡ true → begins_before p (opening_of core.state) d ≡ 1
    once settled = before_is core d true true (matched settled) (begun d settled)

    at : (b s m g r : Bool) → bound_in h d ≡ b → is_settled h d ≡ s → is_matched p d ≡ m → state.was_begun core.state d ≡ g → is_ready p (bound_in h) d ≡ r → T (number_of (word_by b s m g r))
    at true s m g r eb es em eg er =
        let settled : is_settled h d ≡ true = bound-settled h d eb in
        record { small = omega arith; settled = bound_outcome p h lawful d eb; flown = refl; begun = omega (arith, none, once settled); retried = omega arith; unmatched = λ e. absurd (omega arith); matched = λ off. absurd (true≢false (sym (matched settled) ∙ off)); woken = λ e. absurd (omega arith); waiting = λ e _. absurd (omega arith) }
    at false true m g r eb es em eg er =
        record { small = omega arith; settled = failed h d (outcome_of h d) refl eb es; flown = refl; begun = omega (arith, none, once es); retried = omega arith; unmatched = λ e. absurd (omega arith); matched = λ off. absurd (true≢false (sym (matched es) ∙ off)); woken = λ e. absurd (omega arith); waiting = λ e _. absurd (omega arith) }
    at false false false g r eb es em eg er =
        record { small = omega arith; settled = unsettled_none h d es; flown = refl; begun = omega (arith, none, before_is core d false g em eg); retried = omega arith; unmatched = λ e. em; matched = λ off. refl; woken = λ e. absurd (omega arith); waiting = λ e _. absurd (omega arith) }
    at false false true false r eb es em eg er =
        record { small = omega arith; settled = unsettled_none h d es; flown = refl; begun = omega (arith, none, before_is core d true false em eg); retried = omega arith; unmatched = λ e. absurd (omega arith); matched = λ off. absurd (true≢false (sym em ∙ off)); woken = λ e. absurd (omega arith); waiting = λ e _. absurd (omega arith) }
    at false false true true true eb es em eg er =
        record { small = omega arith; settled = unsettled_none h d es; flown = refl; begun = omega (arith, none, before_is core d true true em eg); retried = omega arith; unmatched = λ e. absurd (omega arith); matched = λ off. absurd (true≢false (sym em ∙ off)); woken = λ e. er; waiting = λ e _. absurd (omega arith) }
    at false false true true false eb es em eg er =
        record { small = omega arith; settled = unsettled_none h d es; flown = refl; begun = omega (arith, none, before_is core d true true em eg); retried = omega arith; unmatched = λ e. absurd (omega arith); matched = λ off. absurd (true≢false (sym em ∙ off)); woken = λ e. absurd (omega arith); waiting = λ e all. absurd (true≢false (sym (ready_as p h d em all) ∙ er)) }

-- which words may tell of a device that has a driver, hasn't settled and isn't in flight
pub idle_number : (w : ℕ) → w ≤ 7 → settled_as w ≡ None → flights_of w ≡ 0 → w ≢ 7 → (w ≡ 0) ⊎ (w ≡ 2) ⊎ (w ≡ 3)
idle_number zero le s f n = inl refl
idle_number (suc zero) le s f n = absurd (omega (arith, f))
idle_number (suc (suc zero)) le s f n = inr (inl refl)
idle_number (suc (suc (suc zero))) le s f n = inr (inr refl)
idle_number (suc (suc (suc (suc zero)))) le s f n = absurd (omega (arith, f))
idle_number (suc (suc (suc (suc (suc zero))))) le s f n = let bad : Some Bound ≡ None = s in absurd (cc)
idle_number (suc (suc (suc (suc (suc (suc zero)))))) le s f n = let bad : Some Failed ≡ None = s in absurd (cc)
idle_number (suc (suc (suc (suc (suc (suc (suc zero))))))) le s f n = absurd (n refl)
idle_number (suc (suc (suc (suc (suc (suc (suc (suc w)))))))) le s f n = absurd (omega arith)

pub settled_as-failed : (w : ℕ) → w ≤ 7 → settled_as w ≡ Some Failed → w ≡ 6
settled_as-failed zero le s = absurd (cc)
settled_as-failed (suc zero) le s = absurd (cc)
settled_as-failed (suc (suc zero)) le s = absurd (cc)
settled_as-failed (suc (suc (suc zero))) le s = absurd (cc)
settled_as-failed (suc (suc (suc (suc zero)))) le s = absurd (cc)
settled_as-failed (suc (suc (suc (suc (suc zero))))) le s = let bad : Some Bound ≡ Some Failed = s in absurd (cc)
settled_as-failed (suc (suc (suc (suc (suc (suc zero)))))) le s = refl
settled_as-failed (suc (suc (suc (suc (suc (suc (suc zero))))))) le s = absurd (cc)
settled_as-failed (suc (suc (suc (suc (suc (suc (suc (suc w)))))))) le s = absurd (omega arith)

-- the rule leaves one word for a device, where the first seat is the only one
pub opening_only : (core : CoreValue) (d w : ℕ) → IsBusHistory core.plan core.state.history
    → Tells core.plan (opening_of core.state) core.state.history (opener core ∷ []) d w → w ≡ number_of (opening_word core d)
opening_only core d w lawful tells =
    at (bound_in h d) (is_settled h d) (is_matched p d) (state.was_begun core.state d) (is_ready p (bound_in h) d) refl refl refl refl refl
  where
    p : List PlannedDevice
    p = core.plan

    h : History
    h = core.state.history

    none : total (claims d 0) (opener core ∷ []) ≡ 0
    none = refl

    flown : flights_of w ≡ 0
    flown = sym tells.flown

    idle : is_settled h d ≡ false → is_matched p d ≡ true → (w ≡ 0) ⊎ (w ≡ 2) ⊎ (w ≡ 3)
    idle es em = idle_number w tells.small (sym tells.settled ∙ unsettled_none h d es) flown (λ seven. true≢false (sym em ∙ tells.unmatched seven))

    never : is_settled h d ≡ false → is_matched p d ≡ true → state.was_begun core.state d ≡ false → w ≡ 0
    never es em eg = elim (idle es em) [
      | inl fresh ↦ fresh
      | inr begun ↦ elim begun [
        | inl two ↦ absurd (omega (arith, tells.begun, none, before_is core d true false em eg, ap begins_of two))
        | inr three ↦ absurd (omega (arith, tells.begun, none, before_is core d true false em eg, ap begins_of three))
      ]
    ]

    again : is_settled h d ≡ false → is_matched p d ≡ true → state.was_begun core.state d ≡ true → (w ≡ 2) ⊎ (w ≡ 3)
    again es em eg = elim (idle es em) [
      | inl fresh ↦ absurd (omega (arith, tells.begun, none, before_is core d true true em eg, ap begins_of fresh))
      | inr begun ↦ begun
    ]

    at : (b s m g r : Bool) → bound_in h d ≡ b → is_settled h d ≡ s → is_matched p d ≡ m → state.was_begun core.state d ≡ g → is_ready p (bound_in h) d ≡ r → w ≡ number_of (word_by b s m g r)
    at true s m g r eb es em eg er = settled_as-bound w (sym tells.settled ∙ bound_outcome p h lawful d eb)
    at false true m g r eb es em eg er = settled_as-failed w tells.small (sym tells.settled ∙ failed h d (outcome_of h d) refl eb es)
    at false false false g r eb es em eg er = tells.matched em
    at false false true false r eb es em eg er = never es em eg
    at false false true true true eb es em eg er = elim (again es em eg) [
      | inl two ↦ absurd (omega (arith, tells.waiting two (ready_bound p h d lawful er)))
      | inr three ↦ three
    ]
    at false false true true false eb es em eg er = elim (again es em eg) [
      | inl two ↦ two
      | inr three ↦ absurd (true≢false (sym (tells.woken three) ∙ er))
    ]
