-- What the words of a quiet board are, and when a board is quiet.
use Rattle.std.proofs.Common.{◌≡◌, ◌⊎◌, ℕ, zero, suc, ◌+◌, ◌<◌, ◌≤◌, Bool, true, false, not, List, [], ◌∷◌, ◌++◌, length, take, Option, Some, None, refl, sym, ap, ◌∙◌, subst, inl, inr, arith, get_or, true≢false}
use Rattle.std.proofs.lemmas.Bool.{and_from, and_parts, cases_Bool}
use Rattle.std.specs.List.{list_all, range_with_len}
use Rattle.std.specs.Prelude.{if◌then◌else◌}
use mathlib.Core.Option.{some}
use lib.ListN.{get_elem?}
use Rattle.bus_plan.specs.Plan.{PlannedDevice, is_matched}
use Rattle.bus_core.proofs.HistoryLemmas.{ready-weaker, settled-ready}
use Rattle.bus_core.proofs.Lists.{list_all_in_range}
use Rattle.bus_core.specs.History.{IsBusHistory, IsHistoryAfter, bound_in, is_settled}
use Rattle.bus_core.specs.Ready.{is_ready}
use Rattle.bus_core.specs.declared.settle.Outcome.TheVariants.{Bound, Failed}
use Rattle.bus_board.proofs.Flights.{again_is, begun_before, flight_of, not_tried, own_flight}
use Rattle.bus_board.proofs.Histories.{append-nil, lawful_take, none_unsettled, ready_as, ready_bound, take_outcome, unsettled_none}
use Rattle.bus_board.proofs.Moves.{is_false, is_true}
use Rattle.bus_board.proofs.Tied.{goes_on}
use Rattle.bus_board.proofs.Told.{Told, bound_told, told_bound}
use Rattle.bus_board.specs.Ends.{IsDone, is_quiet, is_still, rest_word, suppliers_bound}
use Rattle.bus_board.specs.Lists.{Among}
use Rattle.bus_board.specs.Opening.{was_begun}
use Rattle.bus_board.specs.Outcomes.{History, IsFront, outcome_of}
use Rattle.bus_board.specs.Rule.{Fits, FlightFits, Kept, Tells}
use Rattle.bus_board.specs.Views.{flies, flies_in}
use Rattle.bus_board.specs.Words.{is_bound_word, number_of, settled_as, word_at}
use Rattle.bus_board.specs.declared.view.Flight.{Flight}
use Rattle.bus_board.specs.declared.view.Opening.{Opening}
use Rattle.bus_board.specs.declared.view.View.{View}
use Rattle.bus_board.specs.declared.words.Word.{Word}
use Rattle.bus_board.specs.declared.words.Word.TheVariants as word

abbrev bound_by : List Word → ℕ → Bool
bound_by words s = is_bound_word (word_at words s)

-- the word at rest, from what it is made of
rest_is : (p : List PlannedDevice) (bound : ℕ → Bool) (d : ℕ) (m b r : Bool) → is_matched p d ≡ m → bound d ≡ b → is_ready p bound d ≡ r
    → rest_word p bound d ≡ (if m then (if b then word.Bound else (if r then word.Failed else word.Waiting)) else word.Unmatched)
rest_is p bound d m b r em eb er = λ i. if em i then (if eb i then word.Bound else (if er i then word.Failed else word.Waiting)) else word.Unmatched

-- the device of such a word has a driver
matched_as : {o : Opening} (p : List PlannedDevice) (log : History) (views : List View) (d w x : ℕ) → Tells p o log views d w → w ≡ x → x < 7 → is_matched p d ≡ true
matched_as p log views d w x tells is below = is_true _ (λ off. absurd (omega (arith, tells.matched off, is)))

pub quiet_rests : (p : List PlannedDevice) (log : History) (views : List View) (words : List Word) → Told p log views words → is_quiet p words ≡ true → (d : ℕ) → d < length p
    → word_at words d ≡ rest_word p (λ s. is_bound_word (word_at words s)) d
quiet_rests p log views words told quiet d inside =
    at (told.tells d inside) (word_at words d) refl (list_all_in_range (λ e. is_still (word_at words e) (suppliers_bound p words e)) (length p) 0 d quiet (omega arith) (omega arith))
  where
    at : Tells p told.opening log views d (number_of (word_at words d)) → (x : Word) → word_at words d ≡ x → is_still x (suppliers_bound p words d) ≡ true → word_at words d ≡ rest_word p (bound_by words) d
    at tells word.Fresh is still = absurd (true≢false (sym still))
    at tells word.Trying is still = absurd (true≢false (sym still))
    at tells word.Woken is still = absurd (true≢false (sym still))
    at tells word.Retrying is still = absurd (true≢false (sym still))
    at tells word.Unmatched is still = is ∙ sym (rest_is p (bound_by words) d false (bound_by words d) (is_ready p (bound_by words) d) (tells.unmatched (ap number_of is)) refl refl)
    at tells word.Bound is still =
        is ∙ sym (rest_is p (bound_by words) d true true (is_ready p (bound_by words) d) (matched_as p log views d _ 5 tells (ap number_of is) (omega arith)) (ap is_bound_word is) refl)
    at tells word.Waiting is still =
        let unready : is_ready p (bound_by words) d ≡ false = is_false _ (λ r. true≢false (sym still ∙ ap not (and_parts (is_matched p d) (suppliers_bound p words d) r).1)) in
        is ∙ sym (rest_is p (bound_by words) d true false false (matched_as p log views d _ 2 tells (ap number_of is) (omega arith)) (ap is_bound_word is) unready)
    at tells word.Failed is still =
        let settled : is_settled log d ≡ true = is_true _ (λ no. let bad : Some Failed ≡ None = sym (tells.settled ∙ ap (λ (x : Word). settled_as (number_of x)) is) ∙ unsettled_none log d no in absurd (cc)) in
        let ready : is_ready p (bound_by words) d ≡ true = ready-weaker p (bound_in log) (bound_by words) (told_bound p log views words told) d (settled-ready p log told.lawful d settled) in
        is ∙ sym (rest_is p (bound_by words) d true false true (matched_as p log views d _ 6 tells (ap number_of is) (omega arith)) (ap is_bound_word is) ready)

all_in_range : (test : ℕ → Bool) (n a : ℕ) → ((d : ℕ) → a ≤ d → d < a + n → test d ≡ true) → list_all test (range_with_len a n) ≡ true
all_in_range test zero a each = refl
all_in_range test (suc n) a each = and_from (test a) (list_all test (range_with_len (a + 1) n)) (each a (omega arith) (omega arith)) (all_in_range test n (a + 1) (λ d above below. each d (omega arith) (omega arith)))

-- where each ready device has settled, nothing more settles
none_more : (p : List PlannedDevice) (h more : History) → ((d : ℕ) → is_ready p (bound_in h) d ≡ true → is_settled h d ≡ true) → IsHistoryAfter p h more → more ≡ []
none_more p h [] all lawful = refl
none_more p h (x ∷ more) all lawful = absurd (true≢false (sym (all x.device lawful.0.ready) ∙ lawful.0.once))

-- what the seat knows is all: it has seen the whole history
saw_whole : (p : List PlannedDevice) (v : View) (log : History) → IsDone p v → IsFront v.seen log → IsBusHistory p log → v.seen ≡ log
saw_whole p v log done front lawful =
    let rest : History = front.0 in
    let after : IsHistoryAfter p v.seen rest = goes_on p [] v.seen rest (subst (IsBusHistory p) front.1 lawful) in
    sym (front.1 ∙ ap (λ (r : History). v.seen ++ r) (none_more p v.seen rest done.settled after) ∙ append-nil v.seen)

pub done_quiet : (p : List PlannedDevice) (numbers : List ℕ) (views : List View) (k : Kept p numbers views) (id : ℕ) (v : View) (words : List Word) → Told p k.log views words
    → ((d : ℕ) → d < length p → get_or numbers d 0 ≡ number_of (word_at words d)) → get_elem? views id ≡ some v → v.live ≡ true → IsDone p v → is_quiet p words ≡ true
done_quiet p numbers views k id v words told same me live done =
    all_in_range (λ e. is_still (word_at words e) (suppliers_bound p words e)) (length p) 0 (λ d _ below. at d (omega arith) (told.tells d (omega arith)) (word_at words d) refl)
  where
    fit : Fits p k.log numbers v
    fit = k.fits id v me

    log-is : v.seen ≡ k.log
    log-is = saw_whole p v k.log done fit.seen k.lawful

    -- no device is ready and not settled
    none-ready : (d : ℕ) → is_ready p (bound_in k.log) d ≡ true → outcome_of k.log d ≡ None → ⊥
    none-ready d ready out =
        let all : is_settled k.log d ≡ true = subst (λ (h : History). is_ready p (bound_in h) d ≡ true → is_settled h d ≡ true) log-is (done.settled d) ready in
        true≢false (sym all ∙ none_unsettled k.log d out)

    begun : (d : ℕ) → d < length p → Tells p told.opening k.log views d (number_of (word_at words d)) → (x : Word) → word_at words d ≡ x → number_of x < 7 → (was_begun p v.opening d ≡ true) ⊎ Among v.claimed d 0
    begun d inside tells x is below = done.begun d (matched_as p k.log views d _ (number_of x) tells (ap number_of is) below)

    at : (d : ℕ) → d < length p → Tells p told.opening k.log views d (number_of (word_at words d)) → (x : Word) → word_at words d ≡ x → is_still (word_at words d) (suppliers_bound p words d) ≡ true
    at d inside tells word.Fresh is = elim (begun d inside tells word.Fresh is (omega arith)) [
      | inl before ↦ absurd (begun_before p numbers views k id v d inside me live before (same d inside ∙ ap number_of is))
      | inr mine ↦ absurd (fit.claimed d 0 mine (same d inside ∙ ap number_of is))
    ]
    at d inside tells word.Trying is = elim (begun d inside tells word.Trying is (omega arith)) [
      | inl before ↦ absurd (not_tried p numbers views k id v d inside me live before (same d inside ∙ ap number_of is))
      | inr mine ↦
          let own : flies d v ≡ 1 = own_flight p numbers views k id v d false inside (same d inside ∙ ap number_of is) me mine in
          absurd (omega (arith, own, ap (λ (o : Option Flight). flies_in o d) done.idle))
    ]
    at d inside tells word.Waiting is = elim (cases_Bool (suppliers_bound p words d)) [
      | inl all ↦
          let matched : is_matched p d ≡ true = matched_as p k.log views d _ 2 tells (ap number_of is) (omega arith) in
          let ready : is_ready p (bound_in k.log) d ≡ true = ready-weaker p (bound_by words) (bound_in k.log) (bound_told p k.log views words told) d (and_from (is_matched p d) (suppliers_bound p words d) matched all) in
          absurd (none-ready d ready (tells.settled ∙ ap (λ (x : Word). settled_as (number_of x)) is))
      | inr unbound ↦ ap (λ (x : Word). is_still x (suppliers_bound p words d)) is ∙ ap not unbound
    ]
    at d inside tells word.Woken is = absurd (none-ready d (tells.woken (ap number_of is)) (tells.settled ∙ ap (λ (x : Word). settled_as (number_of x)) is))
    at d inside tells word.Retrying is =
        let t = flight_of p numbers views k d true inside (same d inside ∙ ap number_of is) in
        let f : Flight = t.2 in
        let right : FlightFits p k.log numbers t.1.seen f = (k.fits t.0 t.1 t.3).flight f t.4 in
        let again : f.again ≡ true = again_is f.again true (sym right.word ∙ ap (λ (e : ℕ). get_or numbers e 0) t.5 ∙ same d inside ∙ ap number_of is) in
        let then-ready : is_ready p (bound_in (take f.at k.log)) d ≡ true = subst (λ (e : ℕ). is_ready p (bound_in (take f.at k.log)) e ≡ true) t.5 (right.retried again) in
        let matched : is_matched p d ≡ true = matched_as p k.log views d _ 4 tells (ap number_of is) (omega arith) in
        let ready : is_ready p (bound_in k.log) d ≡ true = ready_as p k.log d matched (λ s there. take_outcome f.at k.log s Bound (ready_bound p (take f.at k.log) d (lawful_take p f.at [] k.log k.lawful) then-ready s there)) in
        absurd (none-ready d ready (tells.settled ∙ ap (λ (x : Word). settled_as (number_of x)) is))
    at d inside tells word.Bound is = ap (λ (x : Word). is_still x (suppliers_bound p words d)) is
    at d inside tells word.Failed is = ap (λ (x : Word). is_still x (suppliers_bound p words d)) is
    at d inside tells word.Unmatched is = ap (λ (x : Word). is_still x (suppliers_bound p words d)) is
