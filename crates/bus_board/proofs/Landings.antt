-- How a flight ends and a debt is paid, without a breach of the rule.
use Rattle.std.proofs.Common.{◌≡◌, ◌≢◌, ◌⊎◌, ℕ, zero, suc, ◌+◌, ◌<◌, ◌≤◌, Bool, true, false, List, [], ◌∷◌, ◌++◌, length, take, set, get_or, Option, Some, None, refl, sym, ap, ◌∙◌, subst, inl, inr, ⊎_elim, arith, get_or-set_other, eq-eqb, ne_eqb, eqb, cond, true≢false}
use Rattle.std.proofs.lemmas.Bool.{or_left, or_right}
use Rattle.std.specs.List.{list_any, range_with_len}
use Rattle.std.specs.Prelude.{slice_get, slice_index, if◌then◌else◌, filter}
use mathlib.Core.Logic.{dite}
use mathlib.Core.Option.{some}
use native.Mathlib.Decide.{ℕ_discrete}
use lib.ListN.{get_elem?}
use Rattle.bus_plan.specs.Consumers.{consumers_of, devices, has_supplier}
use Rattle.bus_plan.specs.Plan.{PlannedDevice, suppliers_of, verdict_of}
use Rattle.bus_core.specs.History.{IsBusHistory, IsBusStep, bound_in, is_bound, outcome_by}
use Rattle.bus_core.specs.Ready.{is_ready}
use Rattle.bus_core.specs.Step.{settle_of}
use Rattle.bus_core.specs.declared.settle.Outcome.{Outcome}
use Rattle.bus_core.specs.declared.settle.Outcome.TheVariants.{Bound, Failed}
use Rattle.bus_core.specs.declared.settle.Settle.{Settle}
use Rattle.bus_board.proofs.Histories.{append-nil, front_outcome, front_push, front_whole, history_push, lawful_take, none_in_front, none_unsettled, outcome_push-new, outcome_push-other, ready_as, ready_bound, unbound}
use Rattle.bus_board.proofs.Moves.{alone, flying, flying_begun, is_false, is_true, sees_more, settled_as-bound}
use Rattle.bus_board.proofs.Sums.{term_le, total-set}
use Rattle.bus_board.proofs.Turns.{flies_none, flies_one, stayed, still_owed, times-append, turned, word_after}
use Rattle.bus_board.specs.Lists.{Has, times, total}
use Rattle.bus_board.specs.Outcomes.{AllBound, History, outcome_of}
use Rattle.bus_board.specs.Rule.{Fits, FlightFits, Kept, Tells, settled_times}
use Rattle.bus_board.specs.Views.{caught_up, claims, debts_of, deferred, flies, last_look, owes, relieved, rest, settled_by}
use Rattle.bus_board.specs.Words.{IsRetried, begins_of, end_word, flights_of, flying_word, most_retries, settled_as}
use Rattle.bus_board.specs.declared.view.Flight.{Flight}
use Rattle.bus_board.specs.declared.view.View.{View}

-- how the word of a settled device ends
pub record Ends (o : Outcome) (new : ℕ) : Type 0 where
  pub settles : settled_as new ≡ Some o
  pub none : flights_of new ≡ 0
  pub begun : begins_of new ≡ 1
  pub retries : most_retries new ≡ 1
  pub bounds : (new ≢ 0) × (new ≢ 3) × (new ≢ 7) × (new ≤ 7)
  pub not_waiting : new ≢ 2
  pub retried : IsRetried new

pub ends : (o : Outcome) → Ends o (end_word o)
ends Bound = record { settles = refl; none = refl; begun = refl; retries = refl; bounds = ((λ e. absurd (omega arith)), (λ e. absurd (omega arith)), (λ e. absurd (omega arith)), omega arith); not_waiting = λ e. absurd (omega arith); retried = inr (inl refl) }
ends Failed = record { settles = refl; none = refl; begun = refl; retries = refl; bounds = ((λ e. absurd (omega arith)), (λ e. absurd (omega arith)), (λ e. absurd (omega arith)), omega arith); not_waiting = λ e. absurd (omega arith); retried = inr (inr refl) }

-- a list holds it where it stands in it
pub times_has : (xs : List ℕ) (x i : ℕ) → slice_get xs i ≡ Some x → 0 < times x xs
times_has [] x i e = absurd (cc)
times_has (y ∷ xs) x zero e = let same : y ≡ x = cc in omega (arith, ap {B = ℕ} (λ (b : Bool). (if b then 1 else 0)) (eq-eqb y x same))
times_has (y ∷ xs) x (suc i) e = omega (arith, times_has xs x i e)

times_stands : (xs : List ℕ) (x : ℕ) → times x xs ≢ 0 → Has xs x
times_stands [] x n = absurd (n refl)
times_stands (y ∷ xs) x n = dite (ℕ_discrete y x)
    (λ same. (0, ap (λ (k : ℕ). Some k) same))
    (λ other. let t = times_stands xs x (λ z. n (omega (arith, z, ap {B = ℕ} (λ (b : Bool). (if b then 1 else 0)) (ne_eqb y x other)))) in (suc t.0, t.1))

-- a filter keeps what passes
times_filter : (test : ℕ → Bool) (xs : List ℕ) (d : ℕ) → test d ≡ true → times d (filter test xs) ≡ times d xs
times_filter test [] d passes = refl
times_filter test (x ∷ xs) d passes = at (times_filter test xs d passes) (test x) refl
  where
    at : times d (filter test xs) ≡ times d xs → (b : Bool) → test x ≡ b → times d (filter test (x ∷ xs)) ≡ times d (x ∷ xs)
    at more true is = ap (λ (b : Bool). times d (cond b (x ∷ filter test xs) (filter test xs))) is ∙ omega (arith, more)
    at more false is =
        let apart : x ≢ d = λ same. true≢false (sym passes ∙ sym (ap test same) ∙ is) in
        ap (λ (b : Bool). times d (cond b (x ∷ filter test xs) (filter test xs))) is ∙ omega (arith, more, ap {B = ℕ} (λ (b : Bool). (if b then 1 else 0)) (ne_eqb x d apart))

-- each device below the count is in the range
times_range : (first count d : ℕ) → first ≤ d → d < first + count → 0 < times d (range_with_len first count)
times_range first zero d le lt = absurd (omega arith)
times_range first (suc count) d le lt = dite (ℕ_discrete first d)
    (λ same. omega (arith, ap {B = ℕ} (λ (b : Bool). (if b then 1 else 0)) (eq-eqb first d same)))
    (λ other. omega (arith, times_range (first + 1) count d (omega arith) (omega arith)))

any_has : (xs : List ℕ) (d : ℕ) → Has xs d → list_any (λ x. eqb x d) xs ≡ true
any_has [] d there = let none-there : (let o : Option ℕ = None in o ≡ Some d) = there.1 in absurd (cc)
any_has (x ∷ xs) d there = at (λ i is. any_has xs d (i, is)) there.0 there.1
  where
    at : ((i : ℕ) → slice_get xs i ≡ Some d → list_any (λ x. eqb x d) xs ≡ true) → (i : ℕ) → slice_get (x ∷ xs) i ≡ Some d → list_any (λ x. eqb x d) (x ∷ xs) ≡ true
    at later zero is = let same : x ≡ d = cc in or_left (eqb x d) (list_any (λ x. eqb x d) xs) (eq-eqb x d same)
    at later (suc i) is = or_right (eqb x d) (list_any (λ x. eqb x d) xs) (later i is)

-- a device is among the consumers of its suppliers
pub consumers_has : (p : List PlannedDevice) (s d : ℕ) → d < length p → Has (suppliers_of p d) s → 0 < times d (consumers_of p s)
consumers_has p s d lt has = omega (arith, times_filter (λ c. has_supplier p c s) (devices p) d (any_has (suppliers_of p d) s has), times_range 0 (length p) d (omega arith) (omega arith))

-- after a settle, a waiting device with all suppliers bound is owed: it was, or it is a consumer of the device
settle_owes : (p : List PlannedDevice) (words : List ℕ) (views : List View) (k : Kept p words views) (id : ℕ) (v : View) (d e : ℕ) → get_elem? views id ≡ some v → v.plan ≡ p
    → outcome_of (k.log ++ settle_of v.plan d ∷ []) d ≡ Some (settle_of v.plan d).outcome → e < length p → slice_index words e ≡ 2 → AllBound p (k.log ++ settle_of v.plan d ∷ []) e → 0 < total (owes e) (set views id (settled_by v k.log d))
settle_owes p words views k id v d e me plan now lt two all =
    let w : View = settled_by v k.log d in
    dite (ℕ_discrete (times d (suppliers_of p e)) 0)
    (λ none-of.
    let before : AllBound p k.log e = λ s there. dite (ℕ_discrete d s)
    (λ same. let has : 0 < times s (suppliers_of p e) = times_has (suppliers_of p e) s there.0 there.1 in
    absurd (omega (arith, ap (λ (y : ℕ). times y (suppliers_of p e)) same)))
    (λ other. sym (outcome_push-other k.log (settle_of v.plan d) s other) ∙ all s there) in
    still_owed views id v w e me (omega (arith, times-append e v.owed (debts_of v.plan d))) ((k.words_tell e lt).waiting two before))
    (λ some-of. at (outcome_by (verdict_of v.plan d)) refl (times_stands (suppliers_of p e) d some-of))
  where
    at : (o : Outcome) → outcome_by (verdict_of v.plan d) ≡ o → Has (suppliers_of p e) d → 0 < total (owes e) (set views id (settled_by v k.log d))
    at Bound is there =
        let w : View = settled_by v k.log d in
        let has : 0 < times e (consumers_of p d) = consumers_has p d e lt there in
        let same : debts_of v.plan d ≡ consumers_of p d = ap (λ (o : Outcome). if is_bound o then consumers_of v.plan d else []) is ∙ ap (λ (q : List PlannedDevice). consumers_of q d) plan in
        omega (arith, total-set (owes e) views id v w me, times-append e v.owed (debts_of v.plan d), ap (times e) same)
    at Failed is there =
        let bound : outcome_of (k.log ++ settle_of v.plan d ∷ []) d ≡ Some Bound = all d there in
        let bad : Some Failed ≡ Some Bound = sym (now ∙ ap (λ (o : Outcome). Some o) is) ∙ bound in absurd (cc)

pub record Settled (p : List PlannedDevice) (words : List ℕ) (views : List View) (k : Kept p words views) (id : ℕ) (v : View) (d new : ℕ) : Type 0 where
  pub kept : Kept p (set words d new) (set views id (settled_by v k.log d))
  pub follows : IsBusStep v.plan k.log (settle_of v.plan d)

pub settle_kept : (p : List PlannedDevice) (words : List ℕ) (views : List View) (k : Kept p words views) (id : ℕ) (v : View) (f : Flight)
    → v.live ≡ true → v.flight ≡ Some f → ((s : ℕ) → Has (suppliers_of p f.device) s → last_look f.looks s ≡ Some true)
    → get_elem? views id ≡ some v → Settled p words views k id v f.device (end_word (outcome_by (verdict_of v.plan f.device)))
settle_kept p words views k id v f live flies-now seen me =
    let d : ℕ = f.device in
    let x : Settle = settle_of v.plan d in
    let o : Outcome = x.outcome in
    let new : ℕ = end_word o in
    let end : Ends o new = ends o in
    let log : History = k.log in
    let log' : History = log ++ x ∷ [] in
    let w : View = settled_by v log d in
    let fit : Fits p log words v = k.fits id v me in
    let same_plan : v.plan ≡ p = fit.plan_is live in
    let right : FlightFits p log words v.seen f = fit.flight f flies-now in
    let inside : d < length p = right.within in
    let tells : Tells p k.opening log views d (slice_index words d) = k.words_tell d inside in
    let air = flying f.again in
    let open-yet : outcome_of log d ≡ None = tells.settled ∙ ap settled_as right.word ∙ air.0 in
    let ready-now : is_ready p (bound_in log) d ≡ true = ready_as p log d right.matched (λ s there. front_outcome v.seen log s Bound fit.seen (right.bound s (seen s there))) in
    let follows : IsBusStep v.plan log x = record { once = none_unsettled log d open-yet; ready = subst (λ (q : List PlannedDevice). is_ready q (bound_in log) d ≡ true) (sym same_plan) ready-now; outcome = refl } in
    let lawful : IsBusHistory p log' = history_push p log x k.lawful (subst (λ (q : List PlannedDevice). IsBusStep q log x) same_plan follows) in
    let wide = k.wide in
    let here : d < length words = omega arith in
    let one : flies d v ≡ 1 = flies_one v.flight f d flies-now refl in
    let sum : total (flies d) views ≡ 1 = tells.flown ∙ ap flights_of right.word ∙ air.3 in
    let now : outcome_of log' d ≡ Some o = outcome_push-new log x open-yet in
    let own : (e : ℕ) → times e w.mine + settled_times (outcome_of log e) ≡ times e v.mine + settled_times (outcome_of log' e) = λ e. dite (ℕ_discrete d e)
    (λ same. omega (arith, ap {B = ℕ} (λ (b : Bool). (if b then 1 else 0)) (eq-eqb d e same), ap settled_times (subst (λ (y : ℕ). outcome_of log y ≡ None) same open-yet), ap settled_times (subst (λ (y : ℕ). outcome_of log' y ≡ Some o) same now)))
    (λ other. omega (arith, ap {B = ℕ} (λ (b : Bool). (if b then 1 else 0)) (ne_eqb d e other), ap settled_times (outcome_push-other log x e other))) in
    record {
      follows = follows;
      kept = turned p words views k id v w d new log' (x ∷ []) refl refl me ((refl, refl), refl, live) inside lawful
          (λ e ne. outcome_push-other log x e (λ s. ne (sym s)))
          (λ e ne. sym (flies_none v.flight f e flies-now (λ s. ne (sym s))))
          (λ e a ne. refl)
          own
          record {
            small = end.bounds.3;
            settled = now ∙ sym end.settles;
            flown = omega (arith, total-set (flies d) views id v w me, end.none);
            begun = omega (arith, total-set (claims d 0) views id v w me, tells.begun, ap begins_of right.word, (flying_begun f.again).0, end.begun);
            retried = omega (arith, total-set (claims d 3) views id v w me, tells.retried, ap most_retries right.word, (flying_begun f.again).1, end.retries);
            unmatched = λ e. absurd (end.bounds.2 e);
            matched = λ off. absurd (air.1 (sym right.word ∙ tells.matched off));
            woken = λ e. absurd (end.bounds.1 e);
            waiting = λ e _. absurd (end.not_waiting e);
          }
          (λ _. end.bounds.0)
          (λ _. end.retried)
          (alone p k.opening log words views id v f tells me flies-now)
          (λ e ne lt two all. settle_owes p words views k id v d e me same_plan now lt two all)
          record {
            plan_is = fit.plan_is;
            seen = front_whole log';
            told = front_push v.told log (x ∷ []) fit.told;
            mine = λ e out. dite (ℕ_discrete d e)
                (λ same. let was : Some o ≡ None = sym now ∙ ap (outcome_of log') same ∙ out in absurd (cc))
                (λ other. omega (arith, ap {B = ℕ} (λ (b : Bool). (if b then 1 else 0)) (ne_eqb d e other), fit.mine e (none_in_front v.seen log e fit.seen (sym (outcome_push-other log x e other) ∙ out))));
            claimed = λ e a there. word_after words d new e (λ (y : ℕ). y ≢ 0) here (λ _. end.bounds.0) (λ ne. fit.claimed e a there);
            retried = λ e there. word_after words d new e IsRetried here (λ _. end.retried) (λ ne. fit.retried e there);
            passed = λ e there. word_after words d new e (λ (y : ℕ). y ≢ 0) here (λ _. end.bounds.0) (λ ne. fit.passed e there);
            flight = λ g e. absurd (cc);
            begun = λ g e. absurd (cc);
          };
    }

-- TRYING becomes WAITING: a flight that missed a supplier was claimed from FRESH
pub defer_kept : (p : List PlannedDevice) (words : List ℕ) (views : List View) (k : Kept p words views) (id : ℕ) (v : View) (f : Flight) (s : ℕ)
    → v.live ≡ true → v.flight ≡ Some f → Has (suppliers_of p f.device) s → last_look f.looks s ≡ Some false
    → get_elem? views id ≡ some v → Kept p (set words f.device 2) (set views id (deferred v k.log f.device))
defer_kept p words views k id v f s live flies-now there missed me =
    let d : ℕ = f.device in
    let log : History = k.log in
    let w : View = deferred v log d in
    let fit : Fits p log words v = k.fits id v me in
    let right : FlightFits p log words v.seen f = fit.flight f flies-now in
    let inside : d < length p = right.within in
    let tells : Tells p k.opening log views d (slice_index words d) = k.words_tell d inside in
    let first : f.again ≡ false = is_false f.again (λ again. right.missed s missed (ready_bound p (take f.at log) d (lawful_take p f.at [] log k.lawful) (right.retried again) s there)) in
    let trying : slice_index words d ≡ 1 = right.word ∙ ap flying_word first in
    let wide = k.wide in
    let here : d < length words = omega arith in
    let one : flies d v ≡ 1 = flies_one v.flight f d flies-now refl in
    let sum : total (flies d) views ≡ 1 = tells.flown ∙ ap flights_of trying in
    let not-again : IsRetried (slice_index words d) → ⊥ = λ r. let r' : IsRetried 1 = subst IsRetried trying r in
    ⊎_elim (λ (e : 1 ≡ 4). absurd (omega arith)) (λ (r : (1 ≡ 5) ⊎ (1 ≡ 6)). ⊎_elim (λ (e : 1 ≡ 5). absurd (omega arith)) (λ (e : 1 ≡ 6). absurd (omega arith)) r) r' in
    turned p words views k id v w d 2 log [] (sym (append-nil log)) refl me ((refl, refl), refl, live) inside k.lawful
    (λ e ne. refl)
    (λ e ne. sym (flies_none v.flight f e flies-now (λ s. ne (sym s))))
    (λ e a ne. refl)
    (λ e. refl)
    record {
      small = omega arith;
      settled = tells.settled ∙ ap settled_as trying;
      flown = omega (arith, total-set (flies d) views id v w me);
      begun = omega (arith, total-set (claims d 0) views id v w me, tells.begun, ap begins_of trying);
      retried = omega (arith, total-set (claims d 3) views id v w me, tells.retried, ap most_retries trying);
      unmatched = λ e. absurd (omega arith);
      matched = λ off. absurd (omega (arith, tells.matched off));
      woken = λ e. absurd (omega arith);
      waiting = λ _ _. omega (arith, total-set (owes d) views id v w me, times-append d v.owed (d ∷ []), ap {B = ℕ} (λ (b : Bool). (if b then 1 else 0)) (eq-eqb d d refl));
    }
    (λ _ e. absurd (omega arith))
    (λ r. absurd (not-again r))
    (alone p k.opening log words views id v f tells me flies-now)
    (λ e ne lt two all. still_owed views id v w e me (omega (arith, times-append e v.owed (d ∷ []))) ((k.words_tell e lt).waiting two all))
    record {
      plan_is = fit.plan_is;
      seen = front_whole log;
      told = fit.told;
      mine = λ e out. fit.mine e (none_in_front v.seen log e fit.seen out);
      claimed = λ e a there. word_after words d 2 e (λ (y : ℕ). y ≢ 0) here (λ _ z. absurd (omega arith)) (λ ne. fit.claimed e a there);
      retried = λ e there. word_after words d 2 e IsRetried here (λ same. absurd (not-again (subst (λ (y : ℕ). IsRetried (get_or words y 0)) same (fit.retried e there)))) (λ ne. fit.retried e there);
      passed = λ e there. word_after words d 2 e (λ (y : ℕ). y ≢ 0) here (λ _ z. absurd (omega arith)) (λ ne. fit.passed e there);
      flight = λ g e. absurd (cc);
      begun = λ g e. absurd (cc);
    }

relieved_times : (v : View) (h d : ℕ) (more : List ℕ) → v.owed ≡ h ∷ more → h ≢ d → times d v.owed ≡ times d (rest v.owed)
relieved_times v h d more is other = ap (times d) is ∙ omega (arith, ap {B = ℕ} (λ (b : Bool). (if b then 1 else 0)) (ne_eqb h d other), sym (ap (λ (l : List ℕ). times d (rest l)) is))

fits_relieved : (p : List PlannedDevice) (log : History) (words : List ℕ) (v : View) → Fits p log words v → Fits p log words (relieved v log)
fits_relieved p log words v fit = record {
  plan_is = fit.plan_is;
  seen = front_whole log;
  told = fit.told;
  mine = λ e out. fit.mine e (none_in_front v.seen log e fit.seen out);
  claimed = fit.claimed;
  retried = fit.retried;
  passed = fit.passed;
  flight = sees_more p log words v fit;
  begun = fit.begun;
}

-- a debt drops where its device need not be woken now
pub check_dropped : (p : List PlannedDevice) (words : List ℕ) (views : List View) (k : Kept p words views) (id : ℕ) (v : View) (h s : ℕ) (more : List ℕ) → v.live ≡ true → get_elem? views id ≡ some v
    → v.owed ≡ h ∷ more → s < length p → Has (suppliers_of p h) s → slice_index words s ≢ 5 → Kept p words (set views id (relieved v k.log))
check_dropped p words views k id v h s more live me owed inside there unbound =
    stayed p words views k id v (relieved v k.log) refl me ((refl, refl), refl, live) (λ e. refl) (λ e a. refl) (λ e. refl)
    (λ e two all was. dite (ℕ_discrete h e)
    (λ same. let five : slice_index words s ≡ 5 = settled_as-bound _ (sym (k.words_tell s inside).settled ∙ all s (subst (λ (x : ℕ). Has (suppliers_of p x) s) same there)) in absurd (unbound five))
    (λ other. still_owed views id v (relieved v k.log) e me (omega (arith, relieved_times v h e more owed other)) was))
    (fits_relieved p k.log words v (k.fits id v me))

pub check_bound : (p : List PlannedDevice) (words : List ℕ) (views : List View) (k : Kept p words views) (id : ℕ) (v : View) → v.live ≡ true → get_elem? views id ≡ some v → Kept p words (set views id (caught_up v k.log))
check_bound p words views k id v live me = let fit = fits_relieved p k.log words v (k.fits id v me) in
    stayed p words views k id v (caught_up v k.log) refl me ((refl, refl), refl, live) (λ e. refl) (λ e a. refl) (λ e. refl)
    (λ e two all was. still_owed views id v (caught_up v k.log) e me (omega arith) was)
    record { plan_is = fit.plan_is; seen = fit.seen; told = fit.told; mine = fit.mine; claimed = fit.claimed; retried = fit.retried; passed = fit.passed; flight = fit.flight; begun = fit.begun }

-- the wake was lost: the word isn't WAITING
pub wake_lost : (p : List PlannedDevice) (words : List ℕ) (views : List View) (k : Kept p words views) (id : ℕ) (v : View) (h : ℕ) (more : List ℕ) → v.live ≡ true → get_elem? views id ≡ some v
    → v.owed ≡ h ∷ more → slice_index words h ≢ 2 → Kept p words (set views id (relieved v k.log))
wake_lost p words views k id v h more live me owed moved =
    stayed p words views k id v (relieved v k.log) refl me ((refl, refl), refl, live) (λ e. refl) (λ e a. refl) (λ e. refl)
    (λ e two all was. dite (ℕ_discrete h e)
    (λ same. absurd (moved (ap (λ (x : ℕ). get_or words x 0) same ∙ two)))
    (λ other. still_owed views id v (relieved v k.log) e me (omega (arith, relieved_times v h e more owed other)) was))
    (fits_relieved p k.log words v (k.fits id v me))

-- WAITING becomes WOKEN, once all its suppliers were seen bound
pub wake_won : (p : List PlannedDevice) (words : List ℕ) (views : List View) (k : Kept p words views) (id : ℕ) (v : View) (h : ℕ) (more : List ℕ) → v.live ≡ true → get_elem? views id ≡ some v
    → v.owed ≡ h ∷ more → h < length p → ((s : ℕ) → Has (suppliers_of p h) s → outcome_of v.seen s ≡ Some Bound) → slice_index words h ≡ 2
    → Kept p (set words h 3) (set views id (relieved v k.log))
wake_won p words views k id v h more live me owed inside seen found =
    let w : View = relieved v k.log in
    let log : History = k.log in
    let fit : Fits p log words v = k.fits id v me in
    let tells : Tells p k.opening log views h 2 = subst (Tells p k.opening log views h) found (k.words_tell h inside) in
    let wide = k.wide in
    let here : h < length words = omega arith in
    let not-again : IsRetried (slice_index words h) → ⊥ = λ r. let r' : IsRetried 2 = subst IsRetried found r in
    ⊎_elim (λ (e : 2 ≡ 4). absurd (omega arith)) (λ (r : (2 ≡ 5) ⊎ (2 ≡ 6)). ⊎_elim (λ (e : 2 ≡ 5). absurd (omega arith)) (λ (e : 2 ≡ 6). absurd (omega arith)) r) r' in
    let still = fits_relieved p log words v fit in
    turned p words views k id v w h 3 log [] (sym (append-nil log)) refl me ((refl, refl), refl, live) inside k.lawful
    (λ e ne. refl)
    (λ e ne. refl)
    (λ e a ne. refl)
    (λ e. refl)
    record {
      small = omega arith;
      settled = tells.settled;
      flown = omega (arith, total-set (flies h) views id v w me, tells.flown);
      begun = omega (arith, total-set (claims h 0) views id v w me, tells.begun);
      retried = omega (arith, total-set (claims h 3) views id v w me, tells.retried);
      unmatched = λ e. absurd (omega arith);
      matched = λ off. absurd (omega (arith, tells.matched off));
      woken = λ _. ready_as p log h (is_true _ (λ off. absurd (omega (arith, tells.matched off)))) (λ s there. front_outcome v.seen log s Bound fit.seen (seen s there));
      waiting = λ e _. absurd (omega arith);
    }
    (λ _ e. absurd (omega arith))
    (λ r. absurd (not-again r))
    (λ j u apart e g flying same. let one = flies_one u.flight g h flying same in absurd (omega (arith, term_le (flies h) views j u e, tells.flown)))
    (λ e ne lt two all. still_owed views id v w e me (omega (arith, relieved_times v h e more owed (λ s. ne (sym s)))) ((k.words_tell e lt).waiting two all))
    record {
      plan_is = still.plan_is;
      seen = still.seen;
      told = still.told;
      mine = still.mine;
      claimed = λ e a there. word_after words h 3 e (λ (y : ℕ). y ≢ 0) here (λ _ z. absurd (omega arith)) (λ ne. fit.claimed e a there);
      retried = λ e there. word_after words h 3 e IsRetried here (λ same. absurd (not-again (subst (λ (y : ℕ). IsRetried (get_or words y 0)) same (fit.retried e there)))) (λ ne. fit.retried e there);
      passed = λ e there. word_after words h 3 e (λ (y : ℕ). y ≢ 0) here (λ _ z. absurd (omega arith)) (λ ne. fit.passed e there);
      flight = λ f e. let was = still.flight f e in record {
        within = was.within;
        at = was.at;
        word = get_or-set_other words h f.device 3 0 (λ same. let one = flies_one v.flight f h e same in absurd (omega (arith, term_le (flies h) views id v me, tells.flown))) ∙ was.word;
        matched = was.matched;
        bound = was.bound;
        missed = was.missed;
        retried = was.retried;
      };
      begun = still.begun;
    }
