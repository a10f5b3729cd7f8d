-- The checks and the wake that pay a debt.
use Rattle.std.proofs.Common.{◌≡◌, ◌≢◌, ℕ, ◌+◌, ◌<◌, true, List, [], ◌∷◌, length, get_or, Some, Option, ◌≤◌, arith, refl, sym, ap, ◌∙◌, subst, ⊎_elim}
use Rattle.std.proofs.lemmas.Bool.{cases_lt}
use mathlib.Core.Logic.{dite}
use native.Mathlib.Decide.{ℕ_discrete}
use mathlib.Core.Option.{none}
use Rattle.atomic_table.specs.Table.{Me, step}
use Rattle.bus_plan.specs.Plan.{PlannedDevice}
use Rattle.bus_core.specs.History.{IsBusHistory}
use Rattle.bus_core.specs.declared.settle.Outcome.TheVariants.{Bound}
use Rattle.bus_board.proofs.Histories.{front_outcome, front_trans, front_whole}
use Rattle.bus_board.proofs.Tied.{same_made}
use Rattle.bus_board.specs.Learns.{Paid}
use Rattle.bus_board.specs.Outcomes.{History, IsFront, outcome_of}
use Rattle.bus_board.specs.Private.Checks.{HasChecked}
use Rattle.bus_board.specs.Private.Ties.{Carries, IsTied}
use Rattle.bus_board.specs.Steps.{Checks, Wakes}
use Rattle.bus_board.specs.Views.{caught_up, made, relieved, rest, with_debts}
use Rattle.bus_board.specs.declared.flight.Open.{Open}
use Rattle.bus_board.specs.declared.view.View.{View}

abbrev M : Type 0
M = Me (Unit {0}) View

pub debt_start : (m : M) → IsBusHistory m.0.plan m.0.seen → Paid m.0 m.0 m.0.owed
debt_start m lawful = record { log = m.0.seen; view = refl; front = front_whole m.0.seen; lawful = lawful; made = refl }

-- a supplier was found BOUND: the debt stays
pub debt_bound : (v : View) (m n : M) (slots s r : ℕ) → Paid v m.0 v.owed → Checks (step slots s 0 0 none) m r n → r ≡ 5
    → Paid v n.0 v.owed × (outcome_of n.0.seen s ≡ Some Bound) × IsFront m.0.seen n.0.seen
debt_bound v m n slots s r c told five =
    let b = told.bound five in
    let was : m.0 ≡ with_debts v c.log v.owed = c.view in (
      record {
        log = told.log;
        view = b.0 ∙ ap (λ (u : View). caught_up u told.log) was;
        front = front_trans v.seen m.0.seen told.log (subst (IsFront v.seen) (sym (ap (λ (u : View). u.seen) was)) c.front) told.sees.seen;
        lawful = subst (λ (p : List PlannedDevice). IsBusHistory p told.log) (ap (λ (u : View). u.plan) was) told.sees.lawful;
        made = ap made b.0 ∙ same_made m.0 told.log told.sees ∙ c.made;
      },
      ap (λ (u : View). outcome_of u.seen s) b.0 ∙ b.1,
      subst (λ (u : View). IsFront m.0.seen u.seen) (sym b.0) told.sees.seen,
    )

relieve : (v : View) (m n : M) (log : History) → Paid v m.0 v.owed → n.0 ≡ relieved m.0 log → IsFront m.0.seen log → IsBusHistory m.0.plan log → made n.0 ≡ made m.0 → Paid v n.0 (rest v.owed)
relieve v m n log c is front lawful same =
    let was : m.0 ≡ with_debts v c.log v.owed = c.view in
    record {
      log = log;
      view = is ∙ ap (λ (u : View). relieved u log) was;
      front = front_trans v.seen m.0.seen log (subst (IsFront v.seen) (sym (ap (λ (u : View). u.seen) was)) c.front) front;
      lawful = subst (λ (p : List PlannedDevice). IsBusHistory p log) (ap (λ (u : View). u.plan) was) lawful;
      made = same ∙ c.made;
    }

-- a supplier wasn't BOUND: the debt drops
pub debt_dropped : (v : View) (m n : M) (slots s r : ℕ) → Paid v m.0 v.owed → Checks (step slots s 0 0 none) m r n → r ≢ 5 → Paid v n.0 (rest v.owed)
debt_dropped v m n slots s r c told other = relieve v m n told.log c (told.dropped other) told.sees.seen told.sees.lawful (ap made (told.dropped other) ∙ same_made m.0 told.log told.sees)

-- the wake was won or lost: the debt drops
pub debt_woken : (v : View) (m n : M) (slots d r : ℕ) → Paid v m.0 v.owed → Wakes (step slots d 2 3 none) m r n → Paid v n.0 (rest v.owed)
debt_woken v m n slots d r c told = relieve v m n told.log c told.view told.sees.seen told.sees.lawful (ap made told.view ∙ same_made m.0 told.log told.sees)

pub paid_start : (m : M) (left : List ℕ) → m.0.owed ≡ left → IsBusHistory m.0.plan m.0.seen → Paid m.0 m.0 left
paid_start m left is lawful = subst (λ (l : List ℕ). Paid m.0 m.0 l) is (debt_start m lawful)

-- one debt more is paid
pub paid_more : (v u w : View) (d : ℕ) (left : List ℕ) → Paid v u (d ∷ left) → Paid u w (rest u.owed) → Paid v w left
paid_more v u w d left p r =
    let was : u ≡ with_debts v p.log (d ∷ left) = p.view in
    record {
      log = r.log;
      view = r.view ∙ ap (λ (x : View). with_debts x r.log (rest x.owed)) was;
      front = front_trans v.seen u.seen r.log (subst (IsFront v.seen) (sym (ap (λ (x : View). x.seen) was)) p.front) r.front;
      lawful = subst (λ (q : List PlannedDevice). IsBusHistory q r.log) (ap (λ (x : View). x.plan) was) r.lawful;
      made = r.made ∙ p.made;
    }

pub paid_seen : (v u : View) (left : List ℕ) → Paid v u left → IsBusHistory u.plan u.seen
paid_seen v u left p = subst (λ (x : View). IsBusHistory x.plan x.seen) (sym p.view) p.lawful

-- a seat that has paid is tied as before
pub paid_tie : (m n : M) (open_flight : Option Open) (owed left : List ℕ) (count room less : ℕ) → IsTied m open_flight owed count room → n.1 ≡ m.1 → Paid m.0 n.0 [] → left ≡ [] → less ≤ count
    → IsTied n open_flight left less room
paid_tie m n open_flight owed left count room less was same p none-left fewer = record {
  slots = same ∙ was.slots;
  live = ap (λ (v : View). v.live) p.view ∙ was.live;
  lawful = paid_seen m.0 n.0 [] p;
  flight = subst (λ (v : View). Carries v.plan v.flight open_flight) (sym p.view) was.flight;
  debts = ap (λ (v : View). v.owed) p.view ∙ sym none-left;
  within = λ i lt. absurd (omega (arith, ap (length {A = ℕ}) none-left));
  roomy = λ flying. omega (arith, was.roomy flying, ap (λ (v : View). length v.plan) p.view);
}

-- checks that found suppliers BOUND, before and after
pub paid_again : (v u w : View) → Paid v u v.owed → Paid u w u.owed → Paid v w v.owed
paid_again v u w p r = record {
  log = r.log;
  view = r.view ∙ ap (λ (x : View). with_debts x r.log x.owed) p.view;
  front = front_trans v.seen u.seen r.log (subst (IsFront v.seen) (sym (ap (λ (x : View). x.seen) p.view)) p.front) r.front;
  lawful = subst (λ (q : List PlannedDevice). IsBusHistory q r.log) (ap (λ (x : View). x.plan) p.view) r.lawful;
  made = r.made ∙ p.made;
}

-- and one that did not
pub paid_then : (v u w : View) → Paid v u v.owed → Paid u w (rest u.owed) → Paid v w (rest v.owed)
paid_then v u w p r = record {
  log = r.log;
  view = r.view ∙ ap (λ (x : View). with_debts x r.log (rest x.owed)) p.view;
  front = front_trans v.seen u.seen r.log (subst (IsFront v.seen) (sym (ap (λ (x : View). x.seen) p.view)) p.front) r.front;
  lawful = subst (λ (q : List PlannedDevice). IsBusHistory q r.log) (ap (λ (x : View). x.plan) p.view) r.lawful;
  made = r.made ∙ p.made;
}

pub checked_start : (m : M) (ss : List ℕ) (from : ℕ) → IsBusHistory m.0.plan m.0.seen → HasChecked m.0 m.0 ss from from
checked_start m ss from lawful = record { paid = debt_start m lawful; later = front_whole m.0.seen; bound = λ i ge lt. absurd (omega (arith, ge, lt)) }

-- a supplier more was found BOUND
pub checked_more : (v : View) (m n : M) (slots s r from place : ℕ) (ss : List ℕ) → HasChecked v m.0 ss from place → get_or ss place 0 ≡ s → Checks (step slots s 0 0 none) m r n → r ≡ 5
    → HasChecked v n.0 ss from (place + 1)
checked_more v m n slots s r from place ss h is told five =
    let t = debt_bound v m n slots s r h.paid told five in
    record {
      paid = t.0;
      later = front_trans v.seen m.0.seen n.0.seen h.later t.2;
      bound = λ i ge lt. dite (ℕ_discrete i place)
          (λ same. subst (λ (x : ℕ). outcome_of n.0.seen x ≡ Some Bound) (sym (ap (λ (k : ℕ). get_or ss k 0) same ∙ is)) t.1)
          (λ other. front_outcome m.0.seen n.0.seen (get_or ss i 0) Bound t.2 (h.bound i ge (omega (arith, lt, other))));
    }

-- a seat whose checks found suppliers BOUND is as before, but for what it has seen
pub record Owing (p : List PlannedDevice) (owed : List ℕ) (m : View) : Type 0 where
  pub plan : m.plan ≡ p
  pub live : m.live ≡ true
  pub lawful : IsBusHistory m.plan m.seen
  pub owes : m.owed ≡ owed

pub checked_owing : (p : List PlannedDevice) (owed : List ℕ) (v u : View) → Paid v u v.owed → v.plan ≡ p → v.live ≡ true → v.owed ≡ owed → Owing p owed u
checked_owing p owed v u t plan live owes = record {
  plan = ap (λ (x : View). x.plan) t.view ∙ plan;
  live = ap (λ (x : View). x.live) t.view ∙ live;
  lawful = paid_seen v u v.owed t;
  owes = ap (λ (x : View). x.owed) t.view ∙ owes;
}

-- two rounds of checks together find all suppliers BOUND
pub all_checked : (v u w : View) (ss : List ℕ) (start count : ℕ) → HasChecked v u ss start count → HasChecked u w ss 0 start → length ss ≤ count
    → (i : ℕ) → i < length ss → outcome_of w.seen (get_or ss i 0) ≡ Some Bound
all_checked v u w ss start count first second long i lt = ⊎_elim
    (λ (early : i < start). second.bound i (omega arith) early)
    (λ (late : start ≤ i). front_outcome u.seen w.seen (get_or ss i 0) Bound second.later (first.bound i late (omega (arith, lt, long))))
    (cases_lt i start)
