-- Each step keeps the rule.
use Rattle.std.proofs.Common.{◌≡◌, ◌≢◌, ℕ, zero, suc, ◌+◌, ◌<◌, ◌≤◌, Bool, true, List, [], ◌∷◌, ◌++◌, length, take, set, get_or, Option, Some, refl, sym, ap, ◌∙◌, subst, ⊎_elim, arith, length-append, length-set, get_or-set_same, get_or-set_other, eq-eqb, ne_eqb}
use Rattle.std.specs.Prelude.{slice_index, if◌then◌else◌}
use mathlib.Core.Logic.{dite}
use mathlib.Core.Option.{some, some-ne-none}
use native.Mathlib.Decide.{ℕ_discrete}
use lib.ListN.{get_elem?}
use Rattle.atomic_table.proofs.Lists.{at_set}
use Rattle.bus_plan.specs.Plan.{PlannedDevice}
use Rattle.bus_core.specs.History.{IsBusHistory, bound_in}
use Rattle.bus_core.specs.Ready.{is_ready}
use Rattle.bus_core.specs.declared.settle.Outcome.TheVariants.{Bound}
use Rattle.bus_board.proofs.Histories.{front_push, ready_later, take_front}
use Rattle.bus_board.proofs.Shares.{shares_kept}
use Rattle.bus_board.proofs.Sums.{total-set}
use Rattle.bus_board.specs.Lists.{times, total}
use Rattle.bus_board.specs.Outcomes.{AllBound, History, IsFront, outcome_of}
use Rattle.bus_board.specs.Rule.{Fits, Kept, KnowOpening, Tells, settled_times}
use Rattle.bus_board.specs.Views.{claims, flies, flies_in, owes}
use Rattle.bus_board.specs.Words.{IsRetried}
use Rattle.bus_board.specs.declared.view.Flight.{Flight}
use Rattle.bus_board.specs.declared.view.Opening.{Opening}
use Rattle.bus_board.specs.declared.view.View.{View}

pub set_at : {A : Type 0} (l : List A) (i : ℕ) (v w : A) → get_elem? l i ≡ some v → get_elem? (set l i w) i ≡ some w
set_at [] i v w e = absurd (some-ne-none v (sym e))
set_at (x ∷ xs) zero v w e = refl
set_at (x ∷ xs) (suc i) v w e = set_at xs i v w e

pub word_after : (words : List ℕ) (i n d : ℕ) (P : ℕ → Type 0) → i < length words → (d ≡ i → P n) → (d ≢ i → P (get_or words d 0)) → P (get_or (set words i n) d 0)
word_after words i n d P h here other =
    dite (ℕ_discrete d i)
    (λ e. subst P (sym (get_or-set_same words i n 0 h) ∙ ap (λ (k : ℕ). get_or (set words i n) k 0) (sym e)) (here e))
    (λ ne. subst P (sym (get_or-set_other words i d n 0 ne)) (other ne))

pub flies_one : (o : Option Flight) (f : Flight) (d : ℕ) → o ≡ Some f → f.device ≡ d → flies_in o d ≡ 1
flies_one o f d e same = ap (λ (x : Option Flight). flies_in x d) e ∙ ap (λ (b : Bool). if b then 1 else 0) (eq-eqb f.device d same)

pub flies_none : (o : Option Flight) (f : Flight) (d : ℕ) → o ≡ Some f → f.device ≢ d → flies_in o d ≡ 0
flies_none o f d e other = ap (λ (x : Option Flight). flies_in x d) e ∙ ap (λ (b : Bool). if b then 1 else 0) (ne_eqb f.device d other)

-- a step of another seat on the word i, with the history grown
pub fits_later : (p : List PlannedDevice) (log more : History) (words : List ℕ) (i n : ℕ) (u : View)
    → i < length words → (slice_index words i ≢ 0 → n ≢ 0) → (IsRetried (slice_index words i) → IsRetried n)
    → ((f : Flight) → u.flight ≡ Some f → f.device ≢ i)
    → Fits p log words u → Fits p (log ++ more) (set words i n) u
fits_later p log more words i n u h not-fresh still apart fit = record {
  plan_is = fit.plan_is;
  seen = front_push u.seen log more fit.seen;
  told = front_push u.told log more fit.told;
  mine = fit.mine;
  claimed = λ d w a. word_after words i n d (λ (k : ℕ). k ≢ 0) h (λ e. not-fresh (subst (λ (k : ℕ). get_or words k 0 ≢ 0) e (fit.claimed d w a))) (λ ne. fit.claimed d w a);
  retried = λ d a. word_after words i n d IsRetried h (λ e. still (subst (λ (k : ℕ). IsRetried (get_or words k 0)) e (fit.retried d a))) (λ ne. fit.retried d a);
  passed = λ d a. word_after words i n d (λ (k : ℕ). k ≢ 0) h (λ e. not-fresh (subst (λ (k : ℕ). get_or words k 0 ≢ 0) e (fit.passed d a))) (λ ne. fit.passed d a);
  flight = λ f e.
      let was = fit.flight f e in
      let front : take f.at (log ++ more) ≡ take f.at log = take_front f.at log more was.at in
      record {
        within = was.within;
        at = omega (arith, was.at, length-append log more);
        word = get_or-set_other words i f.device n 0 (apart f e) ∙ was.word;
        matched = was.matched;
        bound = was.bound;
        missed = λ s m. subst (λ (l : History). outcome_of l s ≢ Some Bound) (sym front) (was.missed s m);
        retried = λ a. subst (λ (l : History). is_ready p (bound_in l) f.device ≡ true) (sym front) (was.retried a);
      };
  begun = fit.begun;
}

-- a seat's step leaves it a seat, and with what the board was opened
abbrev pub Alike : View → View → Type 0
Alike v w = (w.live ≡ v.live) × (w.opening ≡ v.opening)

-- and with its share of the board
abbrev pub Remains : View → View → Type 0
Remains v w = Alike v w × (w.share ≡ v.share) × (v.live ≡ true)

pub opened_set : (views : List View) (o : Opening) (id : ℕ) (v w : View) → get_elem? views id ≡ some v → Alike v w → KnowOpening views o → KnowOpening (set views id w) o
opened_set views o id v w me alike known j u e = ⊎_elim
    (λ (t : (j ≡ id) × (w ≡ u)). subst (λ (x : View). x.live ≡ true → x.opening ≡ o) t.1 (λ live. alike.1 ∙ known id v me (sym alike.0 ∙ live)))
    (λ (t : (j ≢ id) × (get_elem? views j ≡ some u)). known j u t.1)
    (at_set views id j w u e)

-- the word i becomes n, the seat's view w, and the history goes on
pub turned : (p : List PlannedDevice) (words : List ℕ) (views : List View) (k : Kept p words views) (id : ℕ) (v w : View) (i n : ℕ) (log more : History) → log ≡ k.log ++ more → w.seen ≡ log
    → get_elem? views id ≡ some v → Remains v w → i < length p → IsBusHistory p log
    → ((d : ℕ) → d ≢ i → outcome_of log d ≡ outcome_of k.log d)
    → ((d : ℕ) → d ≢ i → flies d w ≡ flies d v)
    → ((d a : ℕ) → d ≢ i → claims d a w ≡ claims d a v)
    → ((d : ℕ) → times d w.mine + settled_times (outcome_of k.log d) ≡ times d v.mine + settled_times (outcome_of log d))
    → Tells p k.opening log (set views id w) i n
    → (slice_index words i ≢ 0 → n ≢ 0) → (IsRetried (slice_index words i) → IsRetried n)
    → ((j : ℕ) (u : View) → j ≢ id → get_elem? views j ≡ some u → (f : Flight) → u.flight ≡ Some f → f.device ≢ i)
    → ((d : ℕ) → d ≢ i → d < length p → slice_index words d ≡ 2 → AllBound p log d → 0 < total (owes d) (set views id w))
    → Fits p log (set words i n) w
    → Kept p (set words i n) (set views id w)
turned p words views k id v w i n log more grown seen me alike inside lawful same flown claimed own tells not-fresh still apart owe fit =
    let wide = k.wide in
    let h : i < length words = omega arith in
    record {
      opening = k.opening;
      log = log;
      lawful = lawful;
      later = subst (IsFront k.opening.history) (sym grown) (front_push k.opening.history k.log more k.later);
      opened = opened_set views k.opening id v w me alike.0 k.opened;
      seats = shares_kept views id v w me alike.2 (alike.0.0 ∙ alike.2) alike.1 k.seats;
      whole = (id, w, set_at views id v w me, seen);
      wide = length-set words i n ∙ k.wide;
      words_tell = λ d lt. word_after words i n d (λ (x : ℕ). Tells p k.opening log (set views id w) d x) h
          (λ e. subst (λ (x : ℕ). Tells p k.opening log (set views id w) x n) (sym e) tells)
          (λ ne. let was = k.words_tell d lt in record {
            small = was.small;
            settled = same d ne ∙ was.settled;
            flown = omega (arith, total-set (flies d) views id v w me, flown d ne, was.flown);
            begun = omega (arith, total-set (claims d 0) views id v w me, claimed d 0 ne, was.begun);
            retried = omega (arith, total-set (claims d 3) views id v w me, claimed d 3 ne, was.retried);
            unmatched = was.unmatched;
            matched = was.matched;
            woken = λ e. subst (λ (l : History). is_ready p (bound_in l) d ≡ true) (sym grown) (ready_later p k.log more d k.lawful (was.woken e));
            waiting = λ e all. owe d ne lt e all;
          });
      owned = λ d. omega (arith, total-set (λ (x : View). times d x.mine) views id v w me, own d, k.owned d);
      fits = λ j u e. ⊎_elim
          (λ (t : (j ≡ id) × (w ≡ u)). subst (Fits p log (set words i n)) t.1 fit)
          (λ (t : (j ≢ id) × (get_elem? views j ≡ some u)). subst (λ (l : History). Fits p l (set words i n) u) (sym grown) (fits_later p k.log more words i n u h not-fresh still (apart j u t.0 t.1) (k.fits j u t.1)))
          (at_set views id j w u e);
    }

-- a word that is only read
pub stayed : (p : List PlannedDevice) (words : List ℕ) (views : List View) (k : Kept p words views) (id : ℕ) (v w : View) → w.seen ≡ k.log
    → get_elem? views id ≡ some v → Remains v w
    → ((d : ℕ) → flies d w ≡ flies d v) → ((d a : ℕ) → claims d a w ≡ claims d a v) → ((d : ℕ) → times d w.mine ≡ times d v.mine)
    → ((d : ℕ) → slice_index words d ≡ 2 → AllBound p k.log d → 0 < total (owes d) views → 0 < total (owes d) (set views id w))
    → Fits p k.log words w
    → Kept p words (set views id w)
stayed p words views k id v w seen me alike flown claimed own owe fit = record {
  opening = k.opening;
  log = k.log;
  lawful = k.lawful;
  later = k.later;
  opened = opened_set views k.opening id v w me alike.0 k.opened;
  seats = shares_kept views id v w me alike.2 (alike.0.0 ∙ alike.2) alike.1 k.seats;
  whole = (id, w, set_at views id v w me, seen);
  wide = k.wide;
  words_tell = λ d lt. let was = k.words_tell d lt in record {
    small = was.small;
    settled = was.settled;
    flown = omega (arith, total-set (flies d) views id v w me, flown d, was.flown);
    begun = omega (arith, total-set (claims d 0) views id v w me, claimed d 0, was.begun);
    retried = omega (arith, total-set (claims d 3) views id v w me, claimed d 3, was.retried);
    unmatched = was.unmatched;
    matched = was.matched;
    woken = was.woken;
    waiting = λ e all. owe d e all (was.waiting e all);
  };
  owned = λ d. omega (arith, total-set (λ (x : View). times d x.mine) views id v w me, own d, k.owned d);
  fits = λ j u e. ⊎_elim
      (λ (t : (j ≡ id) × (w ≡ u)). subst (Fits p k.log words) t.1 fit)
      (λ (t : (j ≢ id) × (get_elem? views j ≡ some u)). k.fits j u t.1)
      (at_set views id j w u e);
}

-- a debt stays where the seat owes no less
pub still_owed : (views : List View) (id : ℕ) (v w : View) (d : ℕ) → get_elem? views id ≡ some v → times d v.owed ≤ times d w.owed → 0 < total (owes d) views → 0 < total (owes d) (set views id w)
still_owed views id v w d me le some-owed = omega (arith, total-set (owes d) views id v w me)

pub times-append : (d : ℕ) (xs ys : List ℕ) → times d (xs ++ ys) ≡ times d xs + times d ys
times-append d [] ys = omega arith
times-append d (x ∷ xs) ys = omega (arith, times-append d xs ys)
