-- Claims and looks keep the rule.
use Rattle.std.proofs.Common.{◌≡◌, ◌≢◌, ◌⊎◌, ℕ, zero, suc, ◌+◌, ◌<◌, ◌≤◌, Bool, true, false, List, [], ◌∷◌, ◌++◌, length, take, set, get_or, Option, Some, None, refl, sym, ap, ◌∙◌, subst, inl, inr, ⊎_elim, arith, get_or-set_same, eq-eqb, ne_eqb, eqb, eqb-true, zero-add}
use Rattle.std.proofs.lemmas.List.{set-get_or}
use Rattle.std.specs.Prelude.{slice_get, slice_index, if◌then◌else◌}
use mathlib.Core.Logic.{dite}
use mathlib.Core.Option.{some, some-injective}
use native.Mathlib.Decide.{ℕ_discrete}
use lib.ListN.{get_elem?}
use Rattle.atomic_table.specs.Table.{Me, State}
use Rattle.bus_plan.specs.Plan.{PlannedDevice, is_matched}
use Rattle.bus_core.specs.History.{IsBusHistory, bound_in}
use Rattle.bus_core.specs.Ready.{is_ready}
use Rattle.bus_core.specs.declared.settle.Outcome.{Outcome}
use Rattle.bus_core.specs.declared.settle.Outcome.TheVariants.{Bound, Failed}
use Rattle.bus_board.proofs.Histories.{append-nil, front_outcome, front_whole, none_in_front, take_outcome, take_whole}
use Rattle.bus_board.proofs.Shares.{others_spent}
use Rattle.bus_board.proofs.Sums.{term_le, terms_le, total-set}
use Rattle.bus_board.proofs.Turns.{flies_none, flies_one, stayed, still_owed, turned, word_after}
use Rattle.bus_board.specs.Lists.{Among, pairs, total}
use Rattle.bus_board.specs.Outcomes.{History, IsFront, outcome_of}
use Rattle.bus_board.specs.Rule.{Fits, FlightFits, Kept, Tells, settled_times}
use Rattle.bus_board.specs.Shares.{IsWhole}
use Rattle.bus_board.specs.Steps.{Sees}
use Rattle.bus_board.specs.Views.{claimed_by, claims, flies, flies_in, last_look, looked, looked_in, passed_all, spent}
use Rattle.bus_board.specs.Words.{IsRetried, begins_of, claimed_word, flights_of, flying_word, most_retries, settled_as}
use Rattle.bus_board.specs.declared.view.Flight.{Flight}
use Rattle.bus_board.specs.declared.view.Opening.{Opening}
use Rattle.bus_board.specs.declared.view.View.{View}

abbrev M : Type 0
M = Me (Unit {0}) View

abbrev St : Type 0
St = State (Unit {0}) View

front_of_none : (f : History) → IsFront f [] → f ≡ []
front_of_none [] t = refl
front_of_none (x ∷ f) t = let bad : [] ≡ x ∷ (f ++ t.0) = t.1 in absurd (cc)

pub is_true : (b : Bool) → (b ≡ false → ⊥) → b ≡ true
is_true true n = refl
is_true false n = absurd (n refl)

pub is_false : (b : Bool) → (b ≡ true → ⊥) → b ≡ false
is_false false n = refl
is_false true n = absurd (n refl)

pub among_cons : (xs : List (ℕ × ℕ)) (x : ℕ × ℕ) (d w : ℕ) → Among (x ∷ xs) d w → (x ≡ (d, w)) ⊎ Among xs d w
among_cons xs x d w a = at a.0 a.1
  where
    at : (i : ℕ) → slice_get (x ∷ xs) i ≡ Some (d, w) → (x ≡ (d, w)) ⊎ Among xs d w
    at zero e = inl (cc)
    at (suc i) e = inr (i, e)

pub among_push : (xs : List (ℕ × ℕ)) (x : ℕ × ℕ) (d w : ℕ) → Among (xs ++ x ∷ []) d w → (x ≡ (d, w)) ⊎ Among xs d w
among_push [] x d w a = among_cons [] x d w a
among_push (y ∷ xs) x d w a = at (λ i e. among_push xs x d w (i, e)) a.0 a.1
  where
    at : ((i : ℕ) → slice_get (xs ++ x ∷ []) i ≡ Some (d, w) → (x ≡ (d, w)) ⊎ Among xs d w) → (i : ℕ) → slice_get ((y ∷ xs) ++ x ∷ []) i ≡ Some (d, w) → (x ≡ (d, w)) ⊎ Among (y ∷ xs) d w
    at more zero e = inr (0, e)
    at more (suc i) e = ⊎_elim (λ (t : x ≡ (d, w)). inl t) (λ (t : Among xs d w). inr (suc t.0, t.1)) (more i e)

-- a pair more
pub pairs-same : (xs : List (ℕ × ℕ)) (d e a old : ℕ) → d ≡ e → pairs e a ((d, old) ∷ xs) ≡ (if eqb old a then 1 else 0) + pairs e a xs
pairs-same xs d e a old same = ap (λ (b : Bool). (if b then (if eqb old a then 1 else 0) else 0) + pairs e a xs) (eq-eqb d e same)

pub pairs-other : (xs : List (ℕ × ℕ)) (d e a old : ℕ) → d ≢ e → pairs e a ((d, old) ∷ xs) ≡ pairs e a xs
pairs-other xs d e a old other = ap (λ (b : Bool). (if b then (if eqb old a then 1 else 0) else 0) + pairs e a xs) (ne_eqb d e other) ∙ zero-add (pairs e a xs)

-- a flight stays right while its seat sees more
pub sees_more : (p : List PlannedDevice) (log : History) (words : List ℕ) (v : View) → Fits p log words v → (f : Flight) → v.flight ≡ Some f → FlightFits p log words log f
sees_more p log words v fit f e = let was = fit.flight f e in record {
  within = was.within;
  at = was.at;
  word = was.word;
  matched = was.matched;
  bound = λ s b. front_outcome v.seen log s Bound fit.seen (was.bound s b);
  missed = was.missed;
  retried = was.retried;
}

-- the only seat has seen all of the history
pub sole_seen : (p : List PlannedDevice) (words : List ℕ) (views : List View) (k : Kept p words views) (id : ℕ) (v : View) → get_elem? views id ≡ some v → v.live ≡ true → IsWhole v.share → v.seen ≡ k.log
sole_seen p words views k id v me live whole =
    let w = k.whole in
    dite (ℕ_discrete w.0 id)
    (λ same. ap (λ (x : View). x.seen) (some-injective v w.1 (sym me ∙ ap (get_elem? views) (sym same) ∙ w.2)) ∙ w.3)
    (λ other.
    let gone : w.1 ≡ spent = others_spent views id v me live whole k.seats w.0 w.1 other w.2 in
    let none : k.log ≡ [] = sym w.3 ∙ ap (λ (x : View). x.seen) gone in
    front_of_none v.seen (subst (IsFront v.seen) none (k.fits id v me).seen) ∙ sym none)

pub sees_all : (p : List PlannedDevice) (words : List ℕ) (views : List View) (k : Kept p words views) (id : ℕ) (v : View) → get_elem? views id ≡ some v → v.live ≡ true → Sees v k.log
sees_all p words views k id v me live = let fit : Fits p k.log words v = k.fits id v me in record {
  seen = fit.seen;
  told = fit.told;
  lawful = subst (λ (q : List PlannedDevice). IsBusHistory q k.log) (sym (fit.plan_is live)) k.lawful;
  mine = fit.mine;
  sole = λ whole. sole_seen p words views k id v me live whole;
}

-- a claim goes from the word old to new
pub record Kind (old new : ℕ) : Type 0 where
  pub flying : new ≡ flying_word (eqb old 3)
  pub one : flights_of new ≡ 1
  pub none : flights_of old ≡ 0
  pub unsettled : settled_as old ≡ None
  pub still_unsettled : settled_as new ≡ None
  pub matched : old ≢ 7
  pub bounds : (new ≢ 0) × (new ≢ 3) × (new ≢ 7) × (new ≤ 7)
  pub not_waiting : new ≢ 2
  pub retries : eqb old 3 ≡ true → IsRetried new
  pub not_retried : IsRetried old → ⊥
  pub fresh : (old ≡ 0) ⊎ (old ≡ 3)
  pub claimed : claimed_word (eqb old 3) ≡ old
  pub begins : begins_of new ≡ (if eqb old 0 then 1 else 0) + begins_of old
  pub retried : (if eqb old 3 then 1 else 0) + most_retries old ≤ most_retries new

pub from_fresh : Kind 0 1
from_fresh = record {
  flying = refl;
  one = refl;
  none = refl;
  unsettled = refl;
  still_unsettled = refl;
  matched = λ e. absurd (omega arith);
  bounds = ((λ e. absurd (omega arith)), (λ e. absurd (omega arith)), (λ e. absurd (omega arith)), omega arith);
  not_waiting = λ e. absurd (omega arith);
  retries = λ e. absurd (cc);
  not_retried = λ r. ⊎_elim (λ (e : 0 ≡ 4). absurd (omega arith)) (λ (r : (0 ≡ 5) ⊎ (0 ≡ 6)). ⊎_elim (λ (e : 0 ≡ 5). absurd (omega arith)) (λ (e : 0 ≡ 6). absurd (omega arith)) r) r;
  fresh = inl refl;
  claimed = refl;
  begins = refl;
  retried = omega arith;
}

pub from_woken : Kind 3 4
from_woken = record {
  flying = refl;
  one = refl;
  none = refl;
  unsettled = refl;
  still_unsettled = refl;
  matched = λ e. absurd (omega arith);
  bounds = ((λ e. absurd (omega arith)), (λ e. absurd (omega arith)), (λ e. absurd (omega arith)), omega arith);
  not_waiting = λ e. absurd (omega arith);
  retries = λ e. inl refl;
  not_retried = λ r. ⊎_elim (λ (e : 3 ≡ 4). absurd (omega arith)) (λ (r : (3 ≡ 5) ⊎ (3 ≡ 6)). ⊎_elim (λ (e : 3 ≡ 5). absurd (omega arith)) (λ (e : 3 ≡ 6). absurd (omega arith)) r) r;
  fresh = inr refl;
  claimed = refl;
  begins = refl;
  retried = omega arith;
}

-- whoever claimed a device from a word finds it no more at that word
pub unclaimed : (p : List PlannedDevice) (log : History) (words : List ℕ) (v : View) (d old new : ℕ) → Kind old new → Fits p log words v → slice_index words d ≡ old → ¬ Among v.claimed d old
unclaimed p log words v d old new kind fit is a =
    ⊎_elim
    (λ (e : old ≡ 0). fit.claimed d old a (is ∙ e))
    (λ (e : old ≡ 3). kind.not_retried (subst IsRetried is (fit.retried d (subst (Among v.claimed d) e a))))
    kind.fresh

-- the claim is won
pub claim_won : (p : List PlannedDevice) (words : List ℕ) (views : List View) (k : Kept p words views) (id : ℕ) (v : View) (d old new : ℕ) → Kind old new
    → d < length p → v.live ≡ true → v.flight ≡ None → get_elem? views id ≡ some v → slice_index words d ≡ old
    → Kept p (set words d new) (set views id (claimed_by v k.log d old))
claim_won p words views k id v d old new kind inside live idle me found =
    let w : View = claimed_by v k.log d old in
    let log : History = k.log in
    let fit : Fits p log words v = k.fits id v me in
    let tells : Tells p k.opening log views d old = subst (Tells p k.opening log views d) found (k.words_tell d inside) in
    let f : Flight = record { device = d; at = length log; again = eqb old 3; looks = [] } in
    let wide = k.wide in
    let here : d < length words = omega arith in
    let idly : flies d v ≡ 0 = ap (λ (o : Option Flight). flies_in o d) idle in
    let mine : flies d w ≡ 1 = flies_one (Some f) f d refl refl in
    let none-now : total (flies d) views ≡ 0 = tells.flown ∙ kind.none in
    let matched : is_matched p d ≡ true = is_true _ (λ off. kind.matched (tells.matched off)) in
    let whole : take (length log) log ≡ log = take_whole log in
    let flight : FlightFits p log (set words d new) log f = record {
      within = inside;
      at = omega arith;
      word = get_or-set_same words d new 0 here ∙ kind.flying;
      matched = matched;
      bound = λ s b. absurd (cc);
      missed = λ s b. absurd (cc);
      retried = λ again. subst (λ (l : History). is_ready p (bound_in l) d ≡ true) (sym whole) (tells.woken (eqb-true old 3 again));
    } in
    turned p words views k id v w d new log [] (sym (append-nil log)) refl me ((refl, refl), refl, live) inside k.lawful
    (λ e ne. refl)
    (λ e ne. flies_none (Some f) f e refl (λ s. ne (sym s)) ∙ sym (ap (λ (o : Option Flight). flies_in o e) idle))
    (λ e a ne. pairs-other v.claimed d e a old (λ s. ne (sym s)))
    (λ e. refl)
    record {
      small = kind.bounds.3;
      settled = tells.settled ∙ kind.unsettled ∙ sym kind.still_unsettled;
      flown = omega (arith, total-set (flies d) views id v w me, kind.one);
      begun = omega (arith, total-set (claims d 0) views id v w me, pairs-same v.claimed d d 0 old refl, tells.begun, kind.begins);
      retried = omega (arith, total-set (claims d 3) views id v w me, pairs-same v.claimed d d 3 old refl, tells.retried, kind.retried);
      unmatched = λ e. absurd (kind.bounds.2 e);
      matched = λ off. absurd (kind.matched (tells.matched off));
      woken = λ e. absurd (kind.bounds.1 e);
      waiting = λ e _. absurd (kind.not_waiting e);
    }
    (λ _. kind.bounds.0)
    (λ r. absurd (kind.not_retried (subst IsRetried found r)))
    (λ j u apart e g flying same. let one = flies_one u.flight g d flying same in absurd (omega (arith, term_le (flies d) views j u e)))
    (λ e ne lt two all. still_owed views id v w e me (omega arith) ((k.words_tell e lt).waiting two all))
    record {
      plan_is = fit.plan_is;
      seen = front_whole log;
      told = fit.told;
      mine = λ e out. fit.mine e (none_in_front v.seen log e fit.seen out);
      claimed = λ e a there. word_after words d new e (λ (x : ℕ). x ≢ 0) here (λ _. kind.bounds.0)
          (λ ne. ⊎_elim (λ (t : (d, old) ≡ (e, a)). absurd (ne (sym (ap (λ (x : ℕ × ℕ). x.0) t)))) (λ t. fit.claimed e a t) (among_cons v.claimed (d, old) e a there));
      retried = λ e there. ⊎_elim
          (λ (t : (d, old) ≡ (e, 3)). word_after words d new e IsRetried here (λ _. kind.retries (eq-eqb old 3 (ap (λ (x : ℕ × ℕ). x.1) t))) (λ ne. absurd (ne (sym (ap (λ (x : ℕ × ℕ). x.0) t)))))
          (λ (t : Among v.claimed e 3). word_after words d new e IsRetried here
          (λ same. absurd (kind.not_retried (subst IsRetried (ap (λ (x : ℕ). get_or words x 0) same ∙ found) (fit.retried e t)))) (λ ne. fit.retried e t))
          (among_cons v.claimed (d, old) e 3 there);
      passed = λ e there. word_after words d new e (λ (x : ℕ). x ≢ 0) here (λ _. kind.bounds.0) (λ ne. fit.passed e there);
      flight = λ g e. subst (FlightFits p log (set words d new) log) (let same : Some f ≡ Some g = e in cc) flight;
      begun = λ g e. subst (λ (x : Flight). Among w.claimed x.device (claimed_word x.again)) (let is : Some f ≡ Some g = e in let same : f ≡ g = cc in same) (0, ap (λ (a : ℕ). Some (d, a)) (sym kind.claimed));
    }

-- a read word, or a lost claim
pub unread : (p : List PlannedDevice) (words : List ℕ) (views : List View) (i : ℕ) → Kept p words views → Kept p (set words i (get_or words i 0)) views
unread p words views i k = subst (λ (ws : List ℕ). Kept p ws views) (sym (set-get_or words i 0)) k

pub claim_lost : (p : List PlannedDevice) (words : List ℕ) (views : List View) (k : Kept p words views) (id : ℕ) (v : View) (d old : ℕ)
    → v.live ≡ true → get_elem? views id ≡ some v → slice_index words d ≢ old
    → Kept p words (set views id (passed_all v k.log ((d, old) ∷ [])))
claim_lost p words views k id v d old live me missed =
    let w : View = passed_all v k.log ((d, old) ∷ []) in
    let fit : Fits p k.log words v = k.fits id v me in
    stayed p words views k id v w refl me ((refl, refl), refl, live) (λ e. refl) (λ e a. refl) (λ e. refl) (λ e two all. still_owed views id v w e me (omega arith)) record {
      plan_is = fit.plan_is;
      seen = front_whole k.log;
      told = fit.told;
      mine = λ e out. fit.mine e (none_in_front v.seen k.log e fit.seen out);
      claimed = fit.claimed;
      retried = fit.retried;
      passed = λ e there. ⊎_elim
          (λ (t : (d, old) ≡ (e, 0)). λ zero-now. missed (ap (λ (x : ℕ × ℕ). get_or words x.0 0) t ∙ zero-now ∙ sym (ap (λ (x : ℕ × ℕ). x.1) t)))
          (λ (t : Among v.passed e 0). fit.passed e t)
          (among_push v.passed (d, old) e 0 there);
      flight = sees_more p k.log words v fit;
      begun = fit.begun;
    }

pub settled_as-bound : (w : ℕ) → settled_as w ≡ Some Bound → w ≡ 5
settled_as-bound w e =
    dite (ℕ_discrete w 5) (λ is. is)
    (λ ne. dite (ℕ_discrete w 6)
    (λ six. let was : Some Failed ≡ Some Bound = sym (ap settled_as six) ∙ e in absurd (cc))
    (λ not. let was : None ≡ Some Bound = sym (ap (λ (b : Bool). if b then Some Bound else (if eqb w 6 then Some Failed else None)) (ne_eqb w 5 ne) ∙ ap (λ (b : Bool). if b then Some Failed else None) (ne_eqb w 6 not)) ∙ e in absurd (cc)))

pub last_look-same : (s t : ℕ) (b : Bool) (looks : List (ℕ × Bool)) → s ≡ t → last_look ((s, b) ∷ looks) t ≡ Some b
last_look-same s t b looks e = ap (λ (c : Bool). if c then Some b else last_look looks t) (eq-eqb s t e)

pub last_look-other : (s t : ℕ) (b : Bool) (looks : List (ℕ × Bool)) → s ≢ t → last_look ((s, b) ∷ looks) t ≡ last_look looks t
last_look-other s t b looks ne = ap (λ (c : Bool). if c then Some b else last_look looks t) (ne_eqb s t ne)

-- a flight looks at the supplier s
pub look_flight : (p : List PlannedDevice) (log : History) (words : List ℕ) (f : Flight) (s : ℕ) (b : Bool)
    → FlightFits p log words log f → (b ≡ true → outcome_of log s ≡ Some Bound) → (b ≡ false → outcome_of log s ≢ Some Bound)
    → FlightFits p log words log (record { device = f.device; at = f.at; again = f.again; looks = (s, b) ∷ f.looks })
look_flight p log words f s b was found missing = record {
  within = was.within;
  at = was.at;
  word = was.word;
  matched = was.matched;
  bound = λ t e. dite (ℕ_discrete s t)
      (λ same. let is : Some b ≡ Some true = sym (last_look-same s t b f.looks same) ∙ e in subst (λ (x : ℕ). outcome_of log x ≡ Some Bound) same (found (cc)))
      (λ other. was.bound t (sym (last_look-other s t b f.looks other) ∙ e));
  missed = λ t e. dite (ℕ_discrete s t)
      (λ same. let is : Some b ≡ Some false = sym (last_look-same s t b f.looks same) ∙ e in
      λ front. missing (cc) (subst (λ (x : ℕ). outcome_of log x ≡ Some Bound) (sym same) (take_outcome f.at log t Bound front)))
      (λ other. was.missed t (sym (last_look-other s t b f.looks other) ∙ e));
  retried = was.retried;
}

pub looks_right : (p : List PlannedDevice) (log : History) (words : List ℕ) (o : Option Flight) (s : ℕ) (b : Bool)
    → ((f : Flight) → o ≡ Some f → FlightFits p log words log f) → (b ≡ true → outcome_of log s ≡ Some Bound) → (b ≡ false → outcome_of log s ≢ Some Bound)
    → (g : Flight) → looked_in o s b ≡ Some g → FlightFits p log words log g
looks_right p log words None s b was found missing g e = absurd (cc)
looks_right p log words (Some f) s b was found missing g e =
    let h : Flight = record { device = f.device; at = f.at; again = f.again; looks = (s, b) ∷ f.looks } in
    let is : Some h ≡ Some g = e in
    subst (FlightFits p log words log) (let same : h ≡ g = cc in same) (look_flight p log words f s b (was f refl) found missing)

flies_looked : (o : Option Flight) (s : ℕ) (b : Bool) (d : ℕ) → flies_in (looked_in o s b) d ≡ flies_in o d
flies_looked None s b d = refl
flies_looked (Some f) s b d = refl

-- a look is of the same device
looked_begun : (claimed : List (ℕ × ℕ)) (o : Option Flight) (s : ℕ) (b : Bool)
    → ((f : Flight) → o ≡ Some f → Among claimed f.device (claimed_word f.again))
    → (g : Flight) → looked_in o s b ≡ Some g → Among claimed g.device (claimed_word g.again)
looked_begun claimed None s b was g e = absurd (cc)
looked_begun claimed (Some f) s b was g e =
    let h : Flight = record { device = f.device; at = f.at; again = f.again; looks = (s, b) ∷ f.looks } in
    let is : Some h ≡ Some g = e in
    subst (λ (x : Flight). Among claimed x.device (claimed_word x.again)) (let same : h ≡ g = cc in same) (was f refl)

pub look_kept : (p : List PlannedDevice) (words : List ℕ) (views : List View) (k : Kept p words views) (id : ℕ) (v : View) (s : ℕ) → s < length p
    → v.live ≡ true → get_elem? views id ≡ some v → Kept p words (set views id (looked v k.log s (eqb (get_or words s 0) 5)))
look_kept p words views k id v s inside live me =
    let b : Bool = eqb (get_or words s 0) 5 in
    let fit : Fits p k.log words v = k.fits id v me in
    let tells = k.words_tell s inside in
    stayed p words views k id v (looked v k.log s b) refl me ((refl, refl), refl, live) (λ e. flies_looked v.flight s b e) (λ e a. refl) (λ e. refl) (λ e two all. still_owed views id v (looked v k.log s b) e me (omega arith)) record {
      plan_is = fit.plan_is;
      seen = front_whole k.log;
      told = fit.told;
      mine = λ e out. fit.mine e (none_in_front v.seen k.log e fit.seen out);
      claimed = fit.claimed;
      retried = fit.retried;
      passed = fit.passed;
      flight = looks_right p k.log words v.flight s b (sees_more p k.log words v fit)
          (λ yes. tells.settled ∙ ap settled_as (eqb-true (get_or words s 0) 5 yes))
          (λ no. λ bound. let five : get_or words s 0 ≡ 5 = settled_as-bound _ (sym tells.settled ∙ bound) in let yes : eqb (get_or words s 0) 5 ≡ true = eq-eqb (get_or words s 0) 5 five in absurd (cc));
      begun = looked_begun v.claimed v.flight s b fit.begun;
    }

pub flights_of-small : (w : ℕ) → flights_of w ≤ 1
flights_of-small w = dite (ℕ_discrete w 1)
    (λ e. omega (arith, ap {B = ℕ} (λ (b : Bool). if b then 1 else (if eqb w 4 then 1 else 0)) (eq-eqb w 1 e)))
    (λ ne. dite (ℕ_discrete w 4)
    (λ e. omega (arith, ap {B = ℕ} (λ (b : Bool). if b then 1 else (if eqb w 4 then 1 else 0)) (ne_eqb w 1 ne), ap {B = ℕ} (λ (b : Bool). if b then 1 else 0) (eq-eqb w 4 e)))
    (λ n4. omega (arith, ap {B = ℕ} (λ (b : Bool). if b then 1 else (if eqb w 4 then 1 else 0)) (ne_eqb w 1 ne), ap {B = ℕ} (λ (b : Bool). if b then 1 else 0) (ne_eqb w 4 n4))))

-- a flight's device was begun once, and claimed from WOKEN once at most
pub flying_begun : (b : Bool) → (begins_of (flying_word b) ≡ 1) × (most_retries (flying_word b) ≤ 1)
flying_begun true = (refl, omega arith)
flying_begun false = (refl, omega arith)

pub flying : (b : Bool) → (settled_as (flying_word b) ≡ None) × (flying_word b ≢ 7) × (flying_word b ≢ 0) × (flights_of (flying_word b) ≡ 1)
flying true = (refl, (λ e. absurd (omega arith)), (λ e. absurd (omega arith)), refl)
flying false = (refl, (λ e. absurd (omega arith)), (λ e. absurd (omega arith)), refl)

-- no other seat has the flight
pub alone : (p : List PlannedDevice) (o : Opening) (log : History) (words : List ℕ) (views : List View) (id : ℕ) (v : View) (f : Flight) → Tells p o log views f.device (slice_index words f.device)
    → get_elem? views id ≡ some v → v.flight ≡ Some f
    → (j : ℕ) (u : View) → j ≢ id → get_elem? views j ≡ some u → (g : Flight) → u.flight ≡ Some g → g.device ≢ f.device
alone p o log words views id v f tells me flight j u apart e g theirs same =
    omega (arith, terms_le (flies f.device) views id j v u apart me e, flies_one v.flight f f.device flight refl, flies_one u.flight g f.device theirs same, tells.flown, flights_of-small (slice_index words f.device))

settled_as-times : (o : Option Outcome) → settled_times o ≤ 1
settled_as-times None = omega arith
settled_as-times (Some b) = omega arith
