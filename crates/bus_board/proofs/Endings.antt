-- What the words tell at the end, and why a quiet board has bound the least set.
use Rattle.std.proofs.Common.{◌≡◌, ℕ, zero, suc, ◌<◌, ◌≤◌, Bool, true, false, not, List, [], ◌∷◌, length, get_or, Some, None, refl, sym, ap, ◌∙◌, subst, ⊎_elim, arith, true≢false}
use Rattle.std.proofs.lemmas.Bool.{and_parts, cases_Bool}
use mathlib.Core.Option.{some, some-injective, some-ne-none}
use lib.ListN.{get_elem?}
use Rattle.atomic_table.specs.Table.{Final, Seen}
use Rattle.bus_plan.specs.Plan.{PlannedDevice, is_matched}
use Rattle.bus_core.proofs.HistoryLemmas.{matched-below, ready-matched, settled-bound}
use Rattle.bus_core.proofs.LeastLemmas.{bound-closed}
use Rattle.bus_core.proofs.Lists.{list_all_in_range}
use Rattle.bus_core.specs.History.{is_settled}
use Rattle.bus_core.specs.Least.{IsClosed, IsLeast}
use Rattle.bus_core.specs.declared.settle.Outcome.TheVariants.{Failed}
use Rattle.bus_board.proofs.Histories.{unsettled_none}
use Rattle.bus_board.proofs.Rests.{done_quiet, quiet_rests}
use Rattle.bus_board.proofs.Moves.{sole_seen}
use Rattle.bus_board.proofs.Sole.{sole_word, word_number}
use Rattle.bus_board.proofs.Told.{Told, bound_told, told_bound}
use Rattle.bus_board.specs.Ends.{EndsAs, is_quiet, is_still, suppliers_bound, told_word}
use Rattle.bus_board.specs.Outcomes.{History}
use Rattle.bus_board.specs.Rule.{Fits, Holds, Kept, Tells}
use Rattle.bus_board.specs.Words.{is_bound_word, number_of, settled_as, word_at, word_of}
use Rattle.bus_board.specs.declared.view.View.{View}
use Rattle.bus_board.specs.declared.words.Word.{Word}
use Rattle.bus_board.specs.declared.words.Word.TheVariants as word

-- the number of the word of a number
pub number_word : (w : ℕ) → w ≤ 7 → number_of (word_of w) ≡ w
number_word zero le = refl
number_word (suc zero) le = refl
number_word (suc (suc zero)) le = refl
number_word (suc (suc (suc zero))) le = refl
number_word (suc (suc (suc (suc zero)))) le = refl
number_word (suc (suc (suc (suc (suc zero))))) le = refl
number_word (suc (suc (suc (suc (suc (suc zero)))))) le = refl
number_word (suc (suc (suc (suc (suc (suc (suc zero))))))) le = refl
number_word (suc (suc (suc (suc (suc (suc (suc (suc w)))))))) le = absurd (omega arith)

pub at_get : (l : List ℕ) (i a : ℕ) → get_elem? l i ≡ some a → get_or l i 0 ≡ a
at_get [] i a e = absurd (some-ne-none a (sym e))
at_get (x ∷ l) zero a e = some-injective x a e
at_get (x ∷ l) (suc i) a e = at_get l i a e

-- where nothing is left to do, the BOUND devices are closed
quiet_closed : (p : List PlannedDevice) (log : History) (views : List View) (words : List Word) → Told p log views words → is_quiet p words ≡ true → IsClosed p (λ d. is_bound_word (word_at words d))
quiet_closed p log views words told quiet d ready binds =
    let matched : is_matched p d ≡ true = ready-matched p (λ e. is_bound_word (word_at words e)) d ready in
    let inside : d < length p = matched-below p d matched in
    let still : is_still (word_at words d) (suppliers_bound p words d) ≡ true =
    list_all_in_range (λ e. is_still (word_at words e) (suppliers_bound p words e)) (length p) 0 d quiet (omega arith) (omega arith) in
    at matched (told.tells d inside) (word_at words d) refl still
  where
    settled : is_settled log d ≡ true → is_bound_word (word_at words d) ≡ true
    settled is = told_bound p log views words told d (settled-bound p log told.lawful d is binds)

    at : is_matched p d ≡ true → Tells p told.opening log views d (number_of (word_at words d)) → (x : Word) → word_at words d ≡ x → is_still x (suppliers_bound p words d) ≡ true → is_bound_word (word_at words d) ≡ true
    at matched tells word.Fresh is still = absurd (true≢false (sym still))
    at matched tells word.Trying is still = absurd (true≢false (sym still))
    at matched tells word.Waiting is still = absurd (true≢false (sym still ∙ ap not (and_parts (is_matched p d) (suppliers_bound p words d) ready).1))
    at matched tells word.Woken is still = absurd (true≢false (sym still))
    at matched tells word.Retrying is still = absurd (true≢false (sym still))
    at matched tells word.Bound is still = ap is_bound_word is
    at matched tells word.Failed is still = ⊎_elim
        (λ (yes : is_settled log d ≡ true). settled yes)
        (λ (no : is_settled log d ≡ false). let bad : Some Failed ≡ None = sym (tells.settled ∙ ap (λ (x : Word). settled_as (number_of x)) is) ∙ unsettled_none log d no in absurd (cc))
        (cases_Bool (is_settled log d))
    at matched tells word.Unmatched is still = absurd (true≢false (sym matched ∙ tells.unmatched (ap number_of is)))

quiet_least : (p : List PlannedDevice) (log : History) (views : List View) (words : List Word) → Told p log views words → is_quiet p words ≡ true → IsLeast p (λ d. is_bound_word (word_at words d))
quiet_least p log views words told quiet d = (
  λ is set closed. bound-closed p log told.lawful set closed d (bound_told p log views words told d is),
  λ inside. inside (λ e. is_bound_word (word_at words e)) (quiet_closed p log views words told quiet),
)

-- what the last state says of the words
pub ends_as : (key p : List PlannedDevice) (id : ℕ) (v : View) (numbers : List ℕ) (words : List Word) (slots : List (Unit {0})) (quiet : Bool) → key ≡ p → Final (Seen (Holds key) id v) numbers slots → v.live ≡ true
    → length words ≡ length p → ((d : ℕ) → d < length p → (w : ℕ) × (get_elem? numbers d ≡ some w) × (word_at words d ≡ word_of w)) → quiet ≡ is_quiet p words → EndsAs p v words quiet
ends_as key p id v numbers words slots quiet key_is final live wide same is =
    let s = final.0 in
    let kept : Kept p s.words s.views = subst (λ (q : List PlannedDevice). Kept q s.words s.views) key_is final.1.0 in
    let fit : Fits p kept.log s.words v = kept.fits id v final.1.1 in
    let number : (d : ℕ) → d < length p → get_or s.words d 0 ≡ number_of (word_at words d) = λ d lt.
    let t = same d lt in
    let now : get_or s.words d 0 ≡ t.0 = ap (λ (l : List ℕ). get_or l d 0) final.2 ∙ at_get numbers d t.0 t.1 in
    now ∙ sym (ap number_of t.2 ∙ number_word t.0 (subst (λ (w : ℕ). w ≤ 7) now (kept.words_tell d lt).small)) in
    let told : Told p kept.log s.views words = record {
      opening = kept.opening;
      lawful = kept.lawful;
      long = wide;
      tells = λ d lt. subst (Tells p kept.opening kept.log s.views d) (number d lt) (kept.words_tell d lt);
    } in
    record {
      log = kept.log;
      lawful = kept.lawful;
      front = fit.seen;
      stood = record { numbers = s.words; views = s.views; kept = kept; log_is = refl; seat = (id, final.1.1); told = number };
      wide = wide;
      outcomes = λ d lt. (told.tells d lt).settled;
      passed = λ d lt a fresh. fit.passed d a (number d lt ∙ ap number_of fresh);
      sole = λ whole. (
        sole_seen p s.words s.views kept id v final.1.1 live whole,
        λ d lt none. sym (word_number (word_at words d)) ∙ ap word_of (sym (number d (subst (λ (q : List PlannedDevice). d < length q) (fit.plan_is live) lt)) ∙ sole_word p s.words s.views kept id v d final.1.1 live whole lt none) ∙ word_number (told_word v d),
      );
      quiet_is = is;
      done = λ all. is ∙ done_quiet p s.words s.views kept id v words told number final.1.1 live all;
      least = λ yes. quiet_least p kept.log s.views words told (sym is ∙ yes);
      at_rest = λ yes d lt. quiet_rests p kept.log s.views words told (sym is ∙ yes) d lt;
    }
