-- From the board's calls to its steps.
use Rattle.std.proofs.Common.{◌≡◌, ◌≢◌, ℕ, zero, suc, ◌+◌, ◌<◌, ◌≤◌, Bool, true, false, List, [], ◌∷◌, ◌++◌, length, Option, Some, None, refl, sym, ap, ◌∙◌, subst, arith, eq-eqb, eqb, eqb-true, cond, get_or}
use Rattle.std.specs.Prelude.{slice_get, if◌then◌else◌, filter}
use Rattle.std.specs.List.{range_with_len}
use mathlib.Core.Option.{none}
use Rattle.atomic_table.specs.Table.{Allows, Me, step}
use Rattle.bus_plan.specs.Consumers.{consumers_of, devices, has_supplier}
use Rattle.bus_plan.specs.Plan.{PlannedDevice, suppliers_of, verdict_of}
use Rattle.bus_core.specs.History.{IsBusHistory, IsBusStep, bound_in, is_bound, outcome_by}
use Rattle.bus_core.specs.Step.{settle_of, settled_reply}
use Rattle.bus_core.specs.declared.event.Reply.{Reply}
use Rattle.bus_core.specs.declared.refusal.Refusal.TheVariants.{NotReady}
use Rattle.bus_core.specs.declared.settle.Settle.{Settle}
use Rattle.bus_board.proofs.Allowed.{defer_allowed, settle_allowed}
use Rattle.bus_board.proofs.Histories.{history_push, outcome_bound, unbound, unsettled_none}
use Rattle.bus_board.proofs.Tied.{Carried, carries_look, get_map, map_get, more_made, same_made}
use Rattle.bus_board.specs.Learns.{DeferredOn, HasSeenAll, LookedAt, NotSettled, SettledBy}
use Rattle.bus_board.specs.Lists.{Has}
use Rattle.bus_board.specs.Private.Ties.{Carries, FlightAfter, IsTied}
use Rattle.bus_board.specs.Rule.{Holds}
use Rattle.bus_board.specs.Steps.{Defers, Looks, Settles}
use Rattle.bus_board.specs.Views.{debts_of, deferred, last_look, looked_in, made, settled_by}
use Rattle.bus_board.specs.Words.{end_word}
use Rattle.bus_board.specs.declared.flight.Open.{Open}
use Rattle.bus_board.specs.declared.view.Flight.{Flight}
use Rattle.bus_board.specs.declared.view.View.{View}

abbrev M : Type 0
M = Me (Unit {0}) View

abbrev Looked : Type 0
Looked = List (ℕ × Option Bool)

-- the devices of two lists are all below a bound
joined_within : (n : ℕ) (xs ys : List ℕ) → ((i : ℕ) → i < length xs → get_or xs i 0 < n) → ((i : ℕ) → i < length ys → get_or ys i 0 < n) → (i : ℕ) → i < length (xs ++ ys) → get_or (xs ++ ys) i 0 < n
joined_within n [] ys a b i lt = b i lt
joined_within n (x ∷ xs) ys a b zero lt = a 0 (omega arith)
joined_within n (x ∷ xs) ys a b (suc i) lt = joined_within n xs ys (λ k l. a (suc k) (omega arith)) b i (omega arith)

one_within : (n d : ℕ) → d < n → (i : ℕ) → i < length (d ∷ []) → get_or (d ∷ []) i 0 < n
one_within n d inside zero lt = inside
one_within n d inside (suc i) lt = absurd (omega arith)

filter_within : (test : ℕ → Bool) (n : ℕ) (xs : List ℕ) → ((i : ℕ) → i < length xs → get_or xs i 0 < n) → (i : ℕ) → i < length (filter test xs) → get_or (filter test xs) i 0 < n
filter_within test n [] each i lt = absurd (omega arith)
filter_within test n (x ∷ xs) each i lt = at (filter_within test n xs (λ k l. each (suc k) (omega arith))) (test x) i lt
  where
    at : ((i : ℕ) → i < length (filter test xs) → get_or (filter test xs) i 0 < n) → (b : Bool) (i : ℕ) → i < length (cond b (x ∷ filter test xs) (filter test xs)) → get_or (cond b (x ∷ filter test xs) (filter test xs)) i 0 < n
    at more true zero lt = each 0 (omega arith)
    at more true (suc i) lt = more i (omega arith)
    at more false i lt = more i lt

range_within : (first count i : ℕ) → i < length (range_with_len first count) → get_or (range_with_len first count) i 0 < first + count
range_within first zero i lt = absurd (omega arith)
range_within first (suc count) zero lt = omega arith
range_within first (suc count) (suc i) lt = omega (arith, range_within (first + 1) count i (omega arith))

-- the consumers of a device are devices of the plan, and no more than it has
pub consumers_within : (p : List PlannedDevice) (d i : ℕ) → i < length (consumers_of p d) → get_or (consumers_of p d) i 0 < length p
consumers_within p d = filter_within (λ c. has_supplier p c d) (length p) (devices p) (λ i lt. omega (arith, range_within 0 (length p) i lt))

debts_within : (p : List PlannedDevice) (d i : ℕ) → i < length (debts_of p d) → get_or (debts_of p d) i 0 < length p
debts_within p d = at (is_bound (outcome_by (verdict_of p d)))
  where
    at : (b : Bool) (i : ℕ) → i < length (if b then consumers_of p d else []) → get_or (if b then consumers_of p d else []) i 0 < length p
    at true i lt = consumers_within p d i lt
    at false i lt = absurd (omega arith)

filter_fewer : (test : ℕ → Bool) (xs : List ℕ) → length (filter test xs) ≤ length xs
filter_fewer test [] = omega arith
filter_fewer test (x ∷ xs) = at (filter_fewer test xs) (test x)
  where
    at : length (filter test xs) ≤ length xs → (b : Bool) → length (cond b (x ∷ filter test xs) (filter test xs)) ≤ length (x ∷ xs)
    at more true = omega arith
    at more false = omega arith

range_length : (first count : ℕ) → length (range_with_len first count) ≡ count
range_length first zero = refl
range_length first (suc count) = omega (arith, range_length (first + 1) count)

pub consumers_fewer : (p : List PlannedDevice) (d : ℕ) → length (consumers_of p d) ≤ length p
consumers_fewer p d = omega (arith, filter_fewer (λ c. has_supplier p c d) (devices p), range_length 0 (length p))

pub seen_all : (v : View) (x : Open) (t : Carried v x) (looks : Looked) → looks ≡ x.looks.items
    → ((i : ℕ) (y : ℕ × Option Bool) → slice_get looks i ≡ Some y → y.1 ≡ Some true) → HasSeenAll v.plan t.flight
seen_all v x t looks is all s there =
    let g : ℕ → ℕ × Option Bool = λ s. (s, last_look t.flight.looks s) in
    all there.0 (g s) (subst (λ (l : Looked). slice_get l there.0 ≡ Some (g s)) (sym (is ∙ t.looks)) (get_map g (suppliers_of v.plan t.flight.device) there.0 s there.1))

pub not_seen_all : (v : View) (x : Open) (t : Carried v x) (looks : Looked) → looks ≡ x.looks.items
    → (i : ℕ) × (y : ℕ × Option Bool) × (slice_get looks i ≡ Some y) × (y.1 ≢ Some true) → NotSettled v NotReady
not_seen_all v x t looks is some =
    let g : ℕ → ℕ × Option Bool = λ s. (s, last_look t.flight.looks s) in
    let m = map_get g (suppliers_of v.plan t.flight.device) some.0 some.1 (subst (λ (l : Looked). slice_get l some.0 ≡ Some some.1) (is ∙ t.looks) some.2) in
    (t.flight, t.is, (m.0, (some.0, m.1), λ e. some.3 (sym (ap (λ (y : ℕ × Option Bool). y.1) m.2) ∙ e)))

pub settles_as : (key : List PlannedDevice) (slots id : ℕ) (m : M) (x : Open) (new : ℕ) → key ≡ m.0.plan → (t : Carried m.0 x) → m.0.live ≡ true
    → new ≡ end_word (outcome_by (verdict_of m.0.plan x.device)) → HasSeenAll m.0.plan t.flight
    → Allows (Holds key) slots id m x.device (λ _. new) (λ _. Settles (step slots x.device new 0 none) m new)
settles_as key slots id m x new key_is t live word seen =
    let A : ℕ → List PlannedDevice → Type 0 = λ d p. Allows (Holds p) slots id m d (λ _. new) (λ _. Settles (step slots d new 0 none) m new) in
    subst (A x.device) (sym key_is) (subst (λ (d : ℕ). A d m.0.plan) (sym t.device)
    (settle_allowed m.0.plan slots id m t.flight new (word ∙ ap (λ (d : ℕ). end_word (outcome_by (verdict_of m.0.plan d))) t.device) live t.is seen))

pub settled_told : (m n : M) (slots : ℕ) (x : Open) (new : ℕ) (reply : Reply) → (t : Carried m.0 x) → reply ≡ settled_reply (outcome_by (verdict_of m.0.plan x.device)) → HasSeenAll m.0.plan t.flight
    → Settles (step slots x.device new 0 none) m new n → SettledBy m.0 n.0 reply
settled_told m n slots x new reply t said seen told =
    let s : Settle = settle_of m.0.plan t.flight.device in
    let view : n.0 ≡ settled_by m.0 told.log t.flight.device = told.view ∙ ap (settled_by m.0 told.log) t.device in
    let follows : IsBusStep m.0.plan told.log s = subst (λ (d : ℕ). IsBusStep m.0.plan told.log (settle_of m.0.plan d)) t.device told.follows in
    record {
      log = told.log;
      flight = t.flight;
      open_was = t.is;
      ready = seen;
      reply_is = said ∙ ap (λ (d : ℕ). settled_reply (outcome_by (verdict_of m.0.plan d))) t.device;
      view = view;
      front = told.sees.seen;
      lawful = subst (λ (w : View). IsBusHistory m.0.plan w.seen) (sym view) (history_push m.0.plan told.log s told.sees.lawful follows);
      made = ap made view ∙ more_made m.0 told.log s told.sees (unsettled_none told.log t.flight.device follows.once);
    }

-- the seat after a settle, with its debts
pub settled_tie : (m n : M) (slots : ℕ) (d new : ℕ) (o : Option Open) (owed left : List ℕ) (count room fewer less : ℕ) → IsTied m o owed count room → d < length m.0.plan → left ≡ owed ++ debts_of m.0.plan d
    → Settles (step slots d new 0 none) m new n → IsTied n None left fewer less
settled_tie m n slots d new o owed left count room fewer less was inside more told = record {
  slots = told.slots ∙ was.slots;
  live = ap (λ (v : View). v.live) told.view ∙ was.live;
  lawful = subst (λ (v : View). IsBusHistory v.plan v.seen) (sym told.view) (history_push m.0.plan told.log (settle_of m.0.plan d) told.sees.lawful told.follows);
  flight = subst (λ (v : View). Carries v.plan v.flight None) (sym told.view) tt;
  debts = ap (λ (v : View). v.owed) told.view ∙ ap (λ (l : List ℕ). l ++ debts_of m.0.plan d) was.debts ∙ sym more;
  within = λ i lt. subst (λ (v : View). get_or left i 0 < length v.plan) (sym told.view)
      (subst (λ (l : List ℕ). get_or l i 0 < length m.0.plan) (sym more) (joined_within (length m.0.plan) owed (debts_of m.0.plan d) was.within (debts_within m.0.plan d) i (subst (λ (l : List ℕ). i < length l) more lt)));
  roomy = λ flying. absurd (flying refl);
}

-- the last look that was found is the flight's
pub found_look : (v : View) (x : Open) (t : Carried v x) (looks : Looked) → looks ≡ x.looks.items → (s : ℕ) (r : Option Bool)
    → (i : ℕ) × (slice_get looks i ≡ Some (s, r)) → Has (suppliers_of v.plan t.flight.device) s × (last_look t.flight.looks s ≡ r)
found_look v x t looks is s r found =
    let g : ℕ → ℕ × Option Bool = λ s. (s, last_look t.flight.looks s) in
    let m = map_get g (suppliers_of v.plan t.flight.device) found.0 (s, r) (subst (λ (l : Looked). slice_get l found.0 ≡ Some (s, r)) (is ∙ t.looks) found.1) in
    let same : m.0 ≡ s = ap (λ (y : ℕ × Option Bool). y.0) m.2 in
    ((found.0, m.1 ∙ ap (λ (k : ℕ). Some k) same), ap (last_look t.flight.looks) (sym same) ∙ ap (λ (y : ℕ × Option Bool). y.1) m.2)

pub no_look : (v : View) (x : Open) (t : Carried v x) (looks : Looked) → looks ≡ x.looks.items → (s : ℕ)
    → ((i : ℕ) (y : ℕ × Option Bool) → slice_get looks i ≡ Some y → y.0 ≢ s) → ¬ Has (suppliers_of v.plan t.flight.device) s
no_look v x t looks is s none-there there =
    let g : ℕ → ℕ × Option Bool = λ s. (s, last_look t.flight.looks s) in
    none-there there.0 (g s) (subst (λ (l : Looked). slice_get l there.0 ≡ Some (g s)) (sym (is ∙ t.looks)) (get_map g (suppliers_of v.plan t.flight.device) there.0 s there.1)) refl

pub looked_told : (m n : M) (slots s r : ℕ) (x : Open) → (t : Carried m.0 x) → IsBusHistory m.0.plan m.0.seen → Has (suppliers_of m.0.plan t.flight.device) s
    → Looks (step slots s 0 0 none) m r n → LookedAt m.0 n.0 s (eqb r 5)
looked_told m n slots s r x t lawful there told = record {
  log = told.log;
  flight = t.flight;
  open_was = t.is;
  supplier = there;
  view = told.view;
  front = told.sees.seen;
  lawful = told.sees.lawful;
  made = ap made told.view ∙ same_made m.0 told.log told.sees;
  bound = λ yes. ap (λ (w : View). bound_in w.seen s) told.view ∙ outcome_bound told.log s (told.bound (eqb-true r 5 yes));
  not_bound = λ no. unbound m.0.plan m.0.seen lawful s (told.not_bound (λ five. let yes : eqb r 5 ≡ true = eq-eqb r 5 five in absurd (cc)));
}

carries_after : (p : List PlannedDevice) (o : Option Flight) (e f : Option Open) (s : ℕ) (b : Bool) → Carries p o e → FlightAfter s b e f → Carries p (looked_in o s b) f
carries_after p None None None s b c a = tt
carries_after p (Some f) None None s b c a = absurd c
carries_after p o None (Some y) s b c a = absurd a
carries_after p o (Some x) None s b c a = absurd a
carries_after p o (Some x) (Some y) s b c a = carries_look p o x y s b c a.0 a.1

pub looked_tie : (m n : M) (slots s r : ℕ) (o e : Option Open) (owed : List ℕ) (count room : ℕ) → IsTied m o owed count room → FlightAfter s (eqb r 5) o e
    → Looks (step slots s 0 0 none) m r n → IsTied n e owed count room
looked_tie m n slots s r o e owed count room was after told = record {
  slots = told.slots ∙ was.slots;
  live = ap (λ (v : View). v.live) told.view ∙ was.live;
  lawful = subst (λ (v : View). IsBusHistory v.plan v.seen) (sym told.view) told.sees.lawful;
  flight = subst (λ (v : View). Carries v.plan v.flight e) (sym told.view) (carries_after m.0.plan m.0.flight o e s (eqb r 5) was.flight after);
  debts = ap (λ (v : View). v.owed) told.view ∙ was.debts;
  within = λ i lt. subst (λ (v : View). get_or owed i 0 < length v.plan) (sym told.view) (was.within i lt);
  roomy = λ flying. subst (λ (v : View). count + length v.plan ≤ room) (sym told.view) (was.roomy (still_open s (eqb r 5) o e after flying));
}
  where
    still_open : (s : ℕ) (b : Bool) (o e : Option Open) → FlightAfter s b o e → e ≢ None → o ≢ None
    still_open s b None None after some = some
    still_open s b None (Some y) after some = absurd after
    still_open s b (Some x) e after some = λ none-now. absurd (cc)

pub defers_as : (key : List PlannedDevice) (slots id : ℕ) (m : M) (x : Open) (s : ℕ) → key ≡ m.0.plan → (t : Carried m.0 x) → m.0.live ≡ true
    → Has (suppliers_of m.0.plan t.flight.device) s → last_look t.flight.looks s ≡ Some false
    → Allows (Holds key) slots id m x.device (λ _. 2) (λ _. Defers (step slots x.device 2 0 none) m 2)
defers_as key slots id m x s key_is t live there missed =
    let A : ℕ → List PlannedDevice → Type 0 = λ d p. Allows (Holds p) slots id m d (λ _. 2) (λ _. Defers (step slots d 2 0 none) m 2) in
    subst (A x.device) (sym key_is) (subst (λ (d : ℕ). A d m.0.plan) (sym t.device) (defer_allowed m.0.plan slots id m t.flight s live t.is there missed))

pub deferred_told : (m n : M) (slots s : ℕ) (x : Open) → (t : Carried m.0 x) → Has (suppliers_of m.0.plan t.flight.device) s → last_look t.flight.looks s ≡ Some false
    → Defers (step slots x.device 2 0 none) m 2 n → DeferredOn m.0 n.0 s
deferred_told m n slots s x t there missed told = record {
  log = told.log;
  flight = t.flight;
  open_was = t.is;
  supplier = there;
  missed = missed;
  view = told.view ∙ ap (deferred m.0 told.log) t.device;
  front = told.sees.seen;
  lawful = told.sees.lawful;
  made = ap made told.view ∙ same_made m.0 told.log told.sees;
}

pub deferred_tie : (m n : M) (slots d : ℕ) (o : Option Open) (owed left : List ℕ) (count room fewer less : ℕ) → IsTied m o owed count room → d < length m.0.plan → left ≡ owed ++ d ∷ []
    → Defers (step slots d 2 0 none) m 2 n → IsTied n None left fewer less
deferred_tie m n slots d o owed left count room fewer less was inside more told = record {
  slots = told.slots ∙ was.slots;
  live = ap (λ (v : View). v.live) told.view ∙ was.live;
  lawful = subst (λ (v : View). IsBusHistory v.plan v.seen) (sym told.view) told.sees.lawful;
  flight = subst (λ (v : View). Carries v.plan v.flight None) (sym told.view) tt;
  debts = ap (λ (v : View). v.owed) told.view ∙ ap (λ (l : List ℕ). l ++ d ∷ []) was.debts ∙ sym more;
  within = λ i lt. subst (λ (v : View). get_or left i 0 < length v.plan) (sym told.view)
      (subst (λ (l : List ℕ). get_or l i 0 < length m.0.plan) (sym more) (joined_within (length m.0.plan) owed (d ∷ []) was.within (one_within (length m.0.plan) d inside) i (subst (λ (l : List ℕ). i < length l) more lt)));
  roomy = λ flying. absurd (flying refl);
}
