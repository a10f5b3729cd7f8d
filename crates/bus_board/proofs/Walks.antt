-- The claims of one walk over the devices.
use Rattle.std.proofs.Common.{◌≡◌, ◌≢◌, ℕ, zero, suc, ◌+◌, ◌<◌, ◌≤◌, true, List, [], ◌∷◌, ◌++◌, length, Option, Some, None, refl, sym, ap, ◌∙◌, subst, ⊎_elim, arith, append_assoc, eqb}
use mathlib.Core.Logic.{dite}
use mathlib.Core.Option.{none}
use native.Mathlib.Decide.{ℕ_discrete}
use prog.Atomic.{either}
use Rattle.atomic_table.specs.Table.{Allows, Me, step}
use Rattle.bus_plan.specs.Plan.{PlannedDevice, is_matched, suppliers_of}
use Rattle.bus_core.proofs.HistoryLemmas.{matched-below, ready-matched}
use Rattle.bus_core.specs.History.{IsBusHistory, bound_in, is_settled}
use Rattle.bus_core.specs.Ready.{is_ready}
use Rattle.bus_board.proofs.Allowed.{claim_allowed}
use Rattle.bus_board.proofs.Histories.{front_trans, front_whole}
use Rattle.bus_board.proofs.Moves.{Kind, among_push}
use Rattle.bus_board.proofs.SeatsInTurn.{among_left, among_right, not-among}
use Rattle.bus_board.proofs.Tied.{same_made}
use Rattle.bus_board.specs.Ends.{HasBegun, IsDone}
use Rattle.bus_board.specs.Learns.{Claimed, Passed}
use Rattle.bus_board.specs.Lists.{Among}
use Rattle.bus_board.specs.Outcomes.{History, IsFront}
use Rattle.bus_board.specs.Private.Ties.{Carries, IsTied, looks_at}
use Rattle.bus_board.specs.Private.Tries.{HasTried}
use Rattle.bus_board.specs.Rule.{Holds}
use Rattle.bus_board.specs.Shares.{IsWhole}
use Rattle.bus_board.specs.Steps.{Claims, IsPast}
use Rattle.bus_board.specs.Views.{claimed_by, made, passed_all}
use Rattle.bus_board.specs.declared.flight.Open.{Open}
use Rattle.bus_board.specs.declared.view.View.{View}

abbrev M : Type 0
M = Me (Unit {0}) View

-- the claims that a walk over the first n devices tries: each from FRESH, 0, and then from WOKEN, 3
abbrev pub tries : ℕ → List (ℕ × ℕ)
tries zero = []
tries (suc d) = tries d ++ (d, 0) ∷ (d, 3) ∷ []

-- what the only seat learns on a walk
abbrev pub ArePast : View → History → List (ℕ × ℕ) → Type 0
ArePast v log lost = (v.seen ≡ log) × ((d w : ℕ) → Among lost d w → IsPast v d w)

-- how far a walk has come: these claims were lost, and nothing else changed
pub record Walk (v : View) (m : M) (lost : List (ℕ × ℕ)) : Type 0 where
  pub log : History
  pub view : m.0 ≡ passed_all v log lost
  pub front : IsFront v.seen log
  pub lawful : IsBusHistory v.plan log
  pub same_made : made m.0 ≡ made v
  pub live : m.0.live ≡ true
  pub idle : m.0.flight ≡ None
  pub past : IsWhole v.share → v.owed ≡ [] → ArePast v log lost

pairs-nil : (xs : List (ℕ × ℕ)) → xs ++ [] ≡ xs
pairs-nil [] = refl
pairs-nil (x ∷ xs) = ap (λ (l : List (ℕ × ℕ)). x ∷ l) (pairs-nil xs)

pub walk_start : (m : M) → m.0.live ≡ true → m.0.flight ≡ None → IsBusHistory m.0.plan m.0.seen → Walk m.0 m []
walk_start m live idle lawful = record {
  log = m.0.seen;
  view = passed_none m.0;
  front = front_whole m.0.seen;
  lawful = lawful;
  same_made = refl;
  live = live;
  idle = idle;
  past = λ _ _. (refl, λ d w a. absurd (not-among d w a));
}
  where
    passed_none : (v : View) → v ≡ passed_all v v.seen []
    passed_none v = λ i. record { live = v.live; share = v.share; plan = v.plan; opening = v.opening; seen = v.seen; told = v.told; mine = v.mine; flight = v.flight; claimed = v.claimed; passed = sym (pairs-nil v.passed) i; owed = v.owed }

pub walk_claims : (key : List PlannedDevice) (slots id : ℕ) (v : View) (m : M) (lost : List (ℕ × ℕ)) (d old new : ℕ) → Kind old new → Walk v m lost → d < length key
    → Allows (Holds key) slots id m d (λ n. either (eqb n old) new n) (Claims (step slots d old new none) m)
walk_claims key slots id v m lost d old new kind w inside = claim_allowed key slots id m d old new kind inside w.live w.idle

past_as : (v : View) (log : History) (lost : List (ℕ × ℕ)) (d w : ℕ) → log ≡ v.seen → IsPast (passed_all v log lost) d w → IsPast v d w
past_as v log lost d w same is = (is.0, λ woken begun. subst (λ (h : History). is_ready v.plan (bound_in h) d ≡ true → is_settled h d ≡ true) same (is.1 woken begun))

-- a claim was lost
pub walk_lost : (v : View) (m n : M) (slots d old new r : ℕ) (lost : List (ℕ × ℕ)) → Walk v m lost → Claims (step slots d old new none) m r n → r ≢ old → Walk v n (lost ++ (d, old) ∷ [])
walk_lost v m n slots d old new r lost w told miss =
    let is : n.0 ≡ passed_all m.0 told.log ((d, old) ∷ []) = told.lost miss in
    let was : m.0 ≡ passed_all v w.log lost = w.view in
    let whole : passed_all (passed_all v w.log lost) told.log ((d, old) ∷ []) ≡ passed_all v told.log (lost ++ (d, old) ∷ []) = λ i. record {
      live = v.live;
      share = v.share;
      plan = v.plan;
      opening = v.opening;
      seen = told.log;
      told = v.told;
      mine = v.mine;
      flight = v.flight;
      claimed = v.claimed;
      passed = append_assoc v.passed lost ((d, old) ∷ []) i;
      owed = v.owed;
    } in
    record {
      log = told.log;
      view = is ∙ ap (λ (u : View). passed_all u told.log ((d, old) ∷ [])) was ∙ whole;
      front = front_trans v.seen m.0.seen told.log (subst (IsFront v.seen) (sym (ap (λ (u : View). u.seen) was)) w.front) told.sees.seen;
      lawful = subst (λ (p : List PlannedDevice). IsBusHistory p told.log) (ap (λ (u : View). u.plan) was) told.sees.lawful;
      same_made = ap made is ∙ same_made m.0 told.log told.sees ∙ w.same_made;
      live = ap (λ (u : View). u.live) is ∙ w.live;
      idle = ap (λ (u : View). u.flight) is ∙ w.idle;
      past = λ whole owed.
          let before = w.past whole owed in
          let own : IsPast (passed_all v w.log lost) d old = subst (λ (u : View). IsPast u d old) was
          (told.past miss (subst (λ (u : View). IsWhole u.share) (sym was) whole) (ap (λ (u : View). u.owed) was ∙ owed)) in (
            before.0 ∙ sym (ap (λ (u : View). u.seen) was) ∙ told.sees.sole (subst (λ (u : View). IsWhole u.share) (sym was) whole),
            λ e x there. ⊎_elim
                (λ (t : (d, old) ≡ (e, x)). past_as v w.log lost e x (sym before.0) (subst (λ (y : ℕ × ℕ). IsPast (passed_all v w.log lost) y.0 y.1) t own))
                (λ (t : Among lost e x). before.1 e x t)
                (among_push lost (d, old) e x there),
          );
    }

-- the claim was won
pub walk_won : (v : View) (m n : M) (slots d old new r : ℕ) (lost : List (ℕ × ℕ)) → Kind old new → d < length v.plan → Walk v m lost → Claims (step slots d old new none) m r n → r ≡ old → Claimed v n.0 d
walk_won v m n slots d old new r lost kind inside w told hit =
    let is : n.0 ≡ claimed_by m.0 told.log d old = told.won hit in
    let was : m.0 ≡ passed_all v w.log lost = w.view in
    record {
      log = told.log;
      lost = lost;
      from = old;
      from_is = kind.fresh;
      inside = inside;
      new = subst (λ (u : View). ¬ Among u.claimed d old) was (told.new hit);
      view = is ∙ ap (λ (u : View). claimed_by u told.log d old) was;
      front = front_trans v.seen m.0.seen told.log (subst (IsFront v.seen) (sym (ap (λ (u : View). u.seen) was)) w.front) told.sees.seen;
      lawful = subst (λ (p : List PlannedDevice). IsBusHistory p told.log) (ap (λ (u : View). u.plan) was) told.sees.lawful;
      made = ap made is ∙ same_made m.0 told.log told.sees ∙ w.same_made;
    }

-- one device more was passed
pub walk_on : (v : View) (m : M) (d : ℕ) → Walk v m ((tries d ++ (d, 0) ∷ []) ++ (d, 3) ∷ []) → Walk v m (tries (d + 1))
walk_on v m d w = subst (Walk v m) (append_assoc (tries d) ((d, 0) ∷ []) ((d, 3) ∷ []) ∙ ap tries (let e : suc d ≡ d + 1 = omega arith in e)) w

among_here : (xs ys : List (ℕ × ℕ)) (d w : ℕ) → Among (xs ++ (d, w) ∷ ys) d w
among_here xs ys d w = among_right xs ((d, w) ∷ ys) d w (0, refl)

-- each device before is among the tries
tries_all : (n d : ℕ) → d < n → Among (tries n) d 0 × Among (tries n) d 3
tries_all zero d lt = absurd (omega arith)
tries_all (suc n) d lt = dite (ℕ_discrete d n)
    (λ same. subst (λ (k : ℕ). Among (tries (suc n)) k 0 × Among (tries (suc n)) k 3) (sym same)
    (among_here (tries n) ((n, 3) ∷ []) n 0, among_right (tries n) ((n, 0) ∷ (n, 3) ∷ []) n 3 (1, refl)))
    (λ other.
    let t = tries_all n d (omega arith) in
    (among_left (tries n) ((n, 0) ∷ (n, 3) ∷ []) d 0 t.0, among_left (tries n) ((n, 0) ∷ (n, 3) ∷ []) d 3 t.1))

-- the only seat has lost each claim
walk_done : (v : View) (m : M) (n : ℕ) → Walk v m (tries n) → n ≡ length v.plan → IsWhole v.share → v.owed ≡ [] → IsDone v.plan m.0
walk_done v m n w all whole owed =
    let past = w.past whole owed in
    let begun : (d : ℕ) → is_matched v.plan d ≡ true → HasBegun v.plan v d = λ d matched.
    (past.1 d 0 (tries_all n d (omega (arith, matched-below v.plan d matched, all))).0).0 refl matched in
    let settled : (d : ℕ) → is_ready v.plan (bound_in v.seen) d ≡ true → is_settled v.seen d ≡ true = λ d ready.
    let matched : is_matched v.plan d ≡ true = ready-matched v.plan (bound_in v.seen) d ready in
    (past.1 d 3 (tries_all n d (omega (arith, matched-below v.plan d matched, all))).1).1 refl (begun d matched) ready in
    let idle : v.flight ≡ None = sym (ap (λ (u : View). u.flight) w.view) ∙ w.idle in
    subst (λ (u : View). IsDone v.plan u) (sym w.view) (subst (λ (h : History). IsDone v.plan (passed_all v h (tries n))) past.0 record { begun = begun; idle = idle; settled = settled })

pub walk_end : (v : View) (m : M) (n : ℕ) → Walk v m (tries n) → n ≡ length v.plan → Passed v m.0
walk_end v m n w all = record { log = w.log; lost = tries n; all = λ d lt. tries_all n d (omega (arith, all, lt)); view = w.view; front = w.front; lawful = w.lawful; made = w.same_made; done = walk_done v m n w all }

-- claims were lost on a walk
pub walk_tried : (v : View) (m : M) (lost : List (ℕ × ℕ)) → Walk v m lost → HasTried v m.0
walk_tried v m lost w = record { log = w.log; lost = lost; view = w.view; front = w.front; lawful = w.lawful; made = w.same_made }

pub tried_start : (m : M) → m.0.live ≡ true → m.0.flight ≡ None → IsBusHistory m.0.plan m.0.seen → HasTried m.0 m.0
tried_start m live idle lawful = walk_tried m.0 m [] (walk_start m live idle lawful)

-- what was lost before and after is lost together
passed_twice : (v : View) (first log : History) (before after : List (ℕ × ℕ)) → passed_all (passed_all v first before) log after ≡ passed_all v log (before ++ after)
passed_twice v first log before after = λ i. record {
  live = v.live;
  share = v.share;
  plan = v.plan;
  opening = v.opening;
  seen = log;
  told = v.told;
  mine = v.mine;
  flight = v.flight;
  claimed = v.claimed;
  passed = append_assoc v.passed before after i;
  owed = v.owed;
}

later_front : (v u : View) (log : History) → (t : HasTried v u) → IsFront u.seen log → IsFront v.seen log
later_front v u log t front = front_trans v.seen u.seen log (subst (IsFront v.seen) (sym (ap (λ (x : View). x.seen) t.view)) t.front) front

same_plan : (v u : View) (log : History) → HasTried v u → IsBusHistory u.plan log → IsBusHistory v.plan log
same_plan v u log t lawful = subst (λ (p : List PlannedDevice). IsBusHistory p log) (ap (λ (x : View). x.plan) t.view) lawful

pub tried_more : (v u w : View) → HasTried v u → HasTried u w → HasTried v w
tried_more v u w t s = record {
  log = s.log;
  lost = t.lost ++ s.lost;
  view = s.view ∙ ap (λ (x : View). passed_all x s.log s.lost) t.view ∙ passed_twice v t.log s.log t.lost s.lost;
  front = later_front v u s.log t s.front;
  lawful = same_plan v u s.log t s.lawful;
  made = s.made ∙ t.made;
}

pub tried_claimed : (v u w : View) (d : ℕ) → HasTried v u → Claimed u w d → Claimed v w d
tried_claimed v u w d t c = record {
  log = c.log;
  lost = t.lost ++ c.lost;
  from = c.from;
  from_is = c.from_is;
  inside = omega (arith, c.inside, ap (λ (x : View). length x.plan) t.view);
  new = subst (λ (x : View). ¬ Among x.claimed d c.from) t.view c.new;
  view = c.view ∙ ap (λ (x : View). claimed_by (passed_all x c.log c.lost) c.log d c.from) t.view ∙ ap (λ (x : View). claimed_by x c.log d c.from) (passed_twice v t.log c.log t.lost c.lost);
  front = later_front v u c.log t c.front;
  lawful = same_plan v u c.log t c.lawful;
  made = c.made ∙ t.made;
}

pub tried_passed : (v u w : View) → HasTried v u → Passed u w → Passed v w
tried_passed v u w t c = record {
  log = c.log;
  lost = t.lost ++ c.lost;
  all = λ d lt.
      let both = c.all d (omega (arith, lt, ap (λ (x : View). length x.plan) t.view)) in
      (among_right t.lost c.lost d 0 both.0, among_right t.lost c.lost d 3 both.1);
  view = c.view ∙ ap (λ (x : View). passed_all x c.log c.lost) t.view ∙ passed_twice v t.log c.log t.lost c.lost;
  front = later_front v u c.log t c.front;
  lawful = same_plan v u c.log t c.lawful;
  made = c.made ∙ t.made;
  done = λ whole owed. subst (λ (p : List PlannedDevice). IsDone p w) (ap (λ (x : View). x.plan) t.view)
      (c.done (subst (λ (x : View). IsWhole x.share) (sym t.view) whole) (ap (λ (x : View). x.owed) t.view ∙ owed));
}

-- the seat is as before, but for what it has seen and passed
pub record Ready (p : List PlannedDevice) (m : View) : Type 0 where
  pub plan : m.plan ≡ p
  pub live : m.live ≡ true
  pub idle : m.flight ≡ None
  pub lawful : IsBusHistory m.plan m.seen

pub tried_ready : (p : List PlannedDevice) (v u : View) → HasTried v u → v.plan ≡ p → v.live ≡ true → v.flight ≡ None → Ready p u
tried_ready p v u t plan live idle = record {
  plan = ap (λ (x : View). x.plan) t.view ∙ plan;
  live = ap (λ (x : View). x.live) t.view ∙ live;
  idle = ap (λ (x : View). x.flight) t.view ∙ idle;
  lawful = subst (λ (x : View). IsBusHistory x.plan x.seen) (sym t.view) t.lawful;
}

-- the flight of a claim, and the seat's fields for it
pub claimed_tie : (m n : M) (d : ℕ) (x : Open) (p : List PlannedDevice) (open_flight : Option Open) (owed : List ℕ) (count room more : ℕ) → IsTied m open_flight owed count room → m.0.plan ≡ p → n.1 ≡ m.1
    → Claimed m.0 n.0 d → x.device ≡ d → x.looks.items ≡ looks_at [] (suppliers_of p d) → count + length p ≤ more → IsTied n (Some x) owed count more
claimed_tie m n d x p open_flight owed count room more was plan same c device is roomy = record {
  slots = same ∙ was.slots;
  live = ap (λ (v : View). v.live) c.view ∙ was.live;
  lawful = subst (λ (v : View). IsBusHistory v.plan v.seen) (sym c.view) c.lawful;
  flight = subst (λ (v : View). Carries v.plan v.flight (Some x)) (sym c.view) (c.inside, device, is ∙ ap (λ (q : List PlannedDevice). looks_at [] (suppliers_of q d)) (sym plan));
  debts = ap (λ (v : View). v.owed) c.view ∙ was.debts;
  within = λ i lt. omega (arith, was.within i lt, ap (λ (v : View). length v.plan) c.view);
  roomy = λ _. omega (arith, roomy, ap (length {A = PlannedDevice}) plan, ap (λ (v : View). length v.plan) c.view);
}

pub passed_tie : (m n : M) (owed : List ℕ) (count room more : ℕ) → IsTied m None owed count room → n.1 ≡ m.1 → Passed m.0 n.0 → IsTied n None owed count more
passed_tie m n owed count room more was same c = record {
  slots = same ∙ was.slots;
  live = ap (λ (v : View). v.live) c.view ∙ was.live;
  lawful = subst (λ (v : View). IsBusHistory v.plan v.seen) (sym c.view) c.lawful;
  flight = subst (λ (v : View). Carries v.plan v.flight None) (sym c.view) was.flight;
  debts = ap (λ (v : View). v.owed) c.view ∙ was.debts;
  within = λ i lt. omega (arith, was.within i lt, ap (λ (v : View). length v.plan) c.view);
  roomy = λ flying. absurd (flying refl);
}
