-- What the words at the end tell.
use Rattle.std.proofs.Common.{◌≡◌, ℕ, ◌<◌, ◌≤◌, true, List, length, sym, ap, ◌∙◌, ⊎_elim, arith, eq-eqb, eqb-true, true≢false}
use Rattle.std.proofs.lemmas.Bool.{cases_lt}
use Rattle.std.proofs.lemmas.List.{get_or_past}
use Rattle.bus_plan.specs.Plan.{PlannedDevice}
use Rattle.bus_core.proofs.HistoryLemmas.{bound-settled, matched-below, ready-matched, settled-ready}
use Rattle.bus_core.specs.History.{IsBusHistory, bound_in}
use Rattle.bus_board.proofs.Histories.{bound_outcome, outcome_bound}
use Rattle.bus_board.proofs.Moves.{settled_as-bound}
use Rattle.bus_board.specs.Outcomes.{History}
use Rattle.bus_board.specs.Rule.{Tells}
use Rattle.bus_board.specs.Words.{is_bound_word, number_of, settled_as, word_at}
use Rattle.bus_board.specs.declared.view.Opening.{Opening}
use Rattle.bus_board.specs.declared.view.View.{View}
use Rattle.bus_board.specs.declared.words.Word.{Word}
use Rattle.bus_board.specs.declared.words.Word.TheVariants as word

-- The words at the end, each the word of a number that tells of the device.
pub record Told (p : List PlannedDevice) (log : History) (views : List View) (words : List Word) : Type 0 where
  pub opening : Opening
  pub lawful : IsBusHistory p log
  pub long : length words ≡ length p
  pub tells : (d : ℕ) → d < length p → Tells p opening log views d (number_of (word_at words d))

-- a BOUND word is that of a bound device
pub bound_told : (p : List PlannedDevice) (log : History) (views : List View) (words : List Word) → Told p log views words → (d : ℕ) → is_bound_word (word_at words d) ≡ true → bound_in log d ≡ true
bound_told p log views words told d is = ⊎_elim
    (λ (inside : d < length p).
    let five : number_of (word_at words d) ≡ 5 = eqb-true (number_of (word_at words d)) 5 is in
    outcome_bound log d ((told.tells d inside).settled ∙ ap settled_as five))
    (λ (past : length p ≤ d).
    let long = told.long in
    let none : word_at words d ≡ word.Unmatched = get_or_past words d word.Unmatched (omega arith) in
    absurd (true≢false (sym is ∙ ap is_bound_word none)))
    (cases_lt d (length p))

pub told_bound : (p : List PlannedDevice) (log : History) (views : List View) (words : List Word) → Told p log views words → (d : ℕ) → bound_in log d ≡ true → is_bound_word (word_at words d) ≡ true
told_bound p log views words told d is =
    let inside : d < length p = matched-below p d (ready-matched p (bound_in log) d (settled-ready p log told.lawful d (bound-settled log d is))) in
    let five : number_of (word_at words d) ≡ 5 = settled_as-bound _ (sym (told.tells d inside).settled ∙ bound_outcome p log told.lawful d is) in
    eq-eqb (number_of (word_at words d)) 5 five
