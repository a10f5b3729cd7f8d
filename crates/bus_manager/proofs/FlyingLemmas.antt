-- What a worker's seat knows from one call of the board to the next.
use Rattle.std.proofs.Common.{◌≡◌, ◌≢◌, inl, inr, ℕ, suc, ◌+◌, ◌<◌, ◌++◌, ◌||◌, Bool, true, false, true≢false, List, [], ◌∷◌, Option, Some, None, length, cond, eqb, eqb-true, refl, sym, ap, ◌∙◌, subst, arith, eq-eqb, ne_eqb}
use Rattle.std.specs.Prelude.{slice_get, ◌⊎◌}
use Rattle.std.specs.List.{list_all, list_any}
use Rattle.std.proofs.lemmas.Bool.{cases_eq, cases_lt}
use Rattle.std.proofs.lemmas.Option.{slice_get_within}
use Rattle.bus_plan.specs.Plan.{PlannedDevice, suppliers_of}
use Rattle.bus_core.specs.Step.{is_supplier}
use Rattle.bus_core.specs.declared.refusal.Refusal.{Refusal}
use Rattle.bus_core.specs.declared.refusal.Refusal.TheVariants.{NoMemory, NotIdle, Unmatched, StaleTicket, NotReady, WasBound, TooManyEvents, NotInFlight, KnownDriver}
use Rattle.bus_board.specs.Learns.{Claimed, Passed, LookedAt, NotLooked, NotSettled, NotDeferred, JoinedBy, Paid}
use Rattle.bus_board.specs.Lists.{Has}
use Rattle.bus_board.specs.Shown.{Posted, Seated, IsOf}
use Rattle.bus_board.specs.Views.{last_look, looked_in, newcomer}
use Rattle.bus_board.specs.declared.view.View.{View}
use Rattle.bus_board.specs.declared.view.Flight.{Flight}
use Rattle.bus_board.proofs.Histories.{has_all}
use Rattle.bus_manager.specs.Private.Flying.{HasLooked, HasTaken, IsFree}
use Rattle.bus_manager.specs.Private.Seen.{IsPut}
use Rattle.bus_manager.specs.Seen.{sees}

flight-same : (v : View) (f g : Flight) → v.flight ≡ Some f → v.flight ≡ Some g → f ≡ g
flight-same v f g one other =
    let both : Some f ≡ Some g = sym one ∙ other
    in cc

not-flying : (v : View) (f : Flight) → v.flight ≡ Some f → v.flight ≡ None → ⊥
not-flying v f flying none =
    let bad : (let o : Option Flight = None in o ≡ Some f) = sym none ∙ flying
    in cc

-- before the first look nothing is said of the suppliers
pub none-looked : (v : View) (d : ℕ) (one other : List ℕ) (xs ys : List ℕ) → HasLooked v d one xs 0 → HasLooked v d other ys 0
none-looked v d one other xs ys h = record { flight = h.flight; open_was = h.open_was; device = h.device; saw = λ i s lt there. absurd (omega (arith, lt)) }

-- one look more
pub look-more : (v w : View) (d s n : ℕ) (b : Bool) (seen new : List ℕ) (xs : List ℕ)
    → HasLooked v d seen xs n → LookedAt v w s b → slice_get xs n ≡ Some s → IsPut seen new s b → HasLooked w d new xs (n + 1)
look-more v w d s n b seen new xs h l here put = record {
  flight = record { device = h.flight.device; at = h.flight.at; again = h.flight.again; looks = (s, b) ∷ h.flight.looks };
  open_was = ap (λ (x : View). x.flight) l.view ∙ ap (λ (o : Option Flight). looked_in o s b) h.open_was;
  device = h.device;
  saw = λ i t lt there. elim (cases_eq s t) [
    | inl same ↦
        ap (λ (x : Bool). cond x (Some b) (last_look h.flight.looks t)) (eq-eqb s t same)
        ∙ ap (λ (x : Bool). Some x) (sym (ap (sees new) (sym same) ∙ put.here))
    | inr other ↦
        ap (λ (x : Bool). cond x (Some b) (last_look h.flight.looks t)) (ne_eqb s t other)
        ∙ before i t lt there other
        ∙ ap (λ (x : Bool). Some x) (sym (put.others t (λ q. other (sym q))))
  ];
}
  where
    before : (i t : ℕ) → i < n + 1 → slice_get xs i ≡ Some t → (s ≡ t → ⊥) → last_look h.flight.looks t ≡ Some (sees seen t)
    before i t lt there other = elim (cases_lt i n) [
      | inl below ↦ h.saw i t below there
      | inr above ↦
          let last : i ≡ n = omega (arith, lt, above)
          in let both : Some s ≡ Some t = sym here ∙ (ap (λ (k : ℕ). slice_get xs k) (sym last) ∙ there)
          in let same : s ≡ t = cc
          in absurd (other same)
    ]

last-found : (v : View) (d : ℕ) (seen : List ℕ) (xs : List ℕ) (h : HasLooked v d seen xs (length xs)) (s : ℕ) → Has xs s → last_look h.flight.looks s ≡ Some (sees seen s)
last-found v d seen xs h s there = h.saw there.0 s (slice_get_within xs there.0 s there.1) there.1

pub any-has : (xs : List ℕ) (d : ℕ) → list_any (λ s. eqb s d) xs ≡ true → Has xs d
any-has [] d e = absurd (true≢false (sym e))
any-has (x ∷ xs) d e = go (any-has xs d) (eqb x d) refl e
  where
    go : (list_any (λ s. eqb s d) xs ≡ true → Has xs d) → (b : Bool) → eqb x d ≡ b → (b || list_any (λ s. eqb s d) xs) ≡ true → Has (x ∷ xs) d
    go later true is e = (0, ap (λ (k : ℕ). Some k) (eqb-true x d is))
    go later false is e = let h = later e in (suc h.0, h.1)

-- the suppliers of the flight are those of the device
moved : (v : View) (plan : List PlannedDevice) (d s : ℕ) (f g : Flight) → v.plan ≡ plan → f ≡ g → g.device ≡ d → Has (suppliers_of v.plan f.device) s → Has (suppliers_of plan d) s
moved v plan d s f g same is at there =
    subst (λ (e : ℕ). Has (suppliers_of plan e) s) (ap (λ (x : Flight). x.device) is ∙ at) (subst (λ (p : List PlannedDevice). Has (suppliers_of p f.device) s) same there)

moved-back : (v : View) (plan : List PlannedDevice) (d s : ℕ) (f g : Flight) → v.plan ≡ plan → f ≡ g → g.device ≡ d → Has (suppliers_of plan d) s → Has (suppliers_of v.plan f.device) s
moved-back v plan d s f g same is at there =
    subst (λ (p : List PlannedDevice). Has (suppliers_of p f.device) s) (sym same) (subst (λ (e : ℕ). Has (suppliers_of plan e) s) (sym (ap (λ (x : Flight). x.device) is ∙ at)) there)

-- a supplier's look is not refused
pub look-allowed : (v : View) (plan : List PlannedDevice) (d s n : ℕ) (seen : List ℕ) → v.plan ≡ plan → HasLooked v d seen (suppliers_of plan d) n
    → slice_get (suppliers_of plan d) n ≡ Some s → (r : Refusal) → NotLooked v s r → ⊥
look-allowed v plan d s n seen same h here NotInFlight none = not-flying v h.flight h.open_was none
look-allowed v plan d s n seen same h here WasBound t = t.2 (moved-back v plan d s t.0 h.flight same (flight-same v t.0 h.flight t.1 h.open_was) h.device (n, here))
look-allowed v plan d s n seen same h here NoMemory never = never
look-allowed v plan d s n seen same h here NotIdle never = never
look-allowed v plan d s n seen same h here KnownDriver never = never
look-allowed v plan d s n seen same h here Unmatched never = never
look-allowed v plan d s n seen same h here StaleTicket never = never
look-allowed v plan d s n seen same h here NotReady never = never
look-allowed v plan d s n seen same h here TooManyEvents never = never

-- a flight that found all suppliers bound may settle
pub settle-allowed : (v : View) (plan : List PlannedDevice) (d : ℕ) (seen : List ℕ) → v.plan ≡ plan → HasLooked v d seen (suppliers_of plan d) (length (suppliers_of plan d))
    → list_all (sees seen) (suppliers_of plan d) ≡ true → (r : Refusal) → NotSettled v r → ⊥
settle-allowed v plan d seen same h all NotInFlight none = not-flying v h.flight h.open_was none
settle-allowed v plan d seen same h all NotReady t =
    let is : t.0 ≡ h.flight = flight-same v t.0 h.flight t.1 h.open_was
    in let there : Has (suppliers_of plan d) t.2.0 = moved v plan d t.2.0 t.0 h.flight same is h.device t.2.1
    in t.2.2 (ap (λ (x : Flight). last_look x.looks t.2.0) is ∙ last-found v d seen (suppliers_of plan d) h t.2.0 there ∙ ap (λ (b : Bool). Some b) (has_all (sees seen) (suppliers_of plan d) all t.2.0 there))
settle-allowed v plan d seen same h all NoMemory never = never
settle-allowed v plan d seen same h all NotIdle never = never
settle-allowed v plan d seen same h all Unmatched never = never
settle-allowed v plan d seen same h all StaleTicket never = never
settle-allowed v plan d seen same h all WasBound never = never
settle-allowed v plan d seen same h all TooManyEvents never = never
settle-allowed v plan d seen same h all KnownDriver never = never

-- one that missed a supplier may be deferred on it
pub defer-allowed : (v : View) (plan : List PlannedDevice) (d s : ℕ) (seen : List ℕ) → v.plan ≡ plan → HasLooked v d seen (suppliers_of plan d) (length (suppliers_of plan d))
    → is_supplier plan d s ≡ true → sees seen s ≡ false → (r : Refusal) → NotDeferred v s r → ⊥
defer-allowed v plan d s seen same h supplier unbound NotInFlight none = not-flying v h.flight h.open_was none
defer-allowed v plan d s seen same h supplier unbound WasBound t =
    let is : t.0 ≡ h.flight = flight-same v t.0 h.flight t.1 h.open_was
    in let there : Has (suppliers_of plan d) s = any-has (suppliers_of plan d) s supplier
    in t.2 (moved-back v plan d s t.0 h.flight same is h.device there) (ap (λ (x : Flight). last_look x.looks s) is ∙ last-found v d seen (suppliers_of plan d) h s there ∙ ap (λ (b : Bool). Some b) unbound)
defer-allowed v plan d s seen same h supplier unbound NoMemory never = never
defer-allowed v plan d s seen same h supplier unbound NotIdle never = never
defer-allowed v plan d s seen same h supplier unbound Unmatched never = never
defer-allowed v plan d s seen same h supplier unbound StaleTicket never = never
defer-allowed v plan d s seen same h supplier unbound NotReady never = never
defer-allowed v plan d s seen same h supplier unbound TooManyEvents never = never
defer-allowed v plan d s seen same h supplier unbound KnownDriver never = never

-- a seat that took a device, and one that found none
pub taken : (board : Posted) (old new : Seated) (d : ℕ) → IsFree board old → IsOf board new → Claimed old.view new.view d → HasTaken board new d
taken board old new d free of c = record {
  of = of;
  within = subst (λ (p : List PlannedDevice). d < length p) free.0.1 c.inside;
  looked = record {
    flight = record { device = d; at = length c.log; again = eqb c.from 3; looks = [] };
    open_was = ap (λ (v : View). v.flight) c.view;
    device = refl;
    saw = λ i s lt there. absurd (omega (arith, lt));
  };
  owed = ap (λ (v : View). v.owed) c.view ∙ free.1.1;
}

pub passed-free : (board : Posted) (old new : Seated) → IsFree board old → IsOf board new → Passed old.view new.view → IsFree board new
passed-free board old new free of p = (of, (ap (λ (v : View). v.flight) p.view ∙ free.1.0, ap (λ (v : View). v.owed) p.view ∙ free.1.1))

-- a seat that paid its debts
pub paid-free : (board : Posted) (old new : Seated) → IsOf board new → old.view.flight ≡ None → Paid old.view new.view [] → IsFree board new
paid-free board old new of ended p = (of, (ap (λ (v : View). v.flight) p.view ∙ ended, ap (λ (v : View). v.owed) p.view))

-- a further seat
pub newcomer-free : (board : Posted) (own new : Seated) → IsOf board new → new.view ≡ newcomer own.view → IsFree board new
newcomer-free board own new of is = (of, (ap (λ (v : View). v.flight) is, ap (λ (v : View). v.owed) is))

-- two seats that became one
pub joined-free : (board : Posted) (old seat new : Seated) → IsFree board old → IsFree board seat → IsOf board new → JoinedBy old.view seat.view new.view → IsFree board new
joined-free board old seat new free left of j =
    (of, (ap (λ (v : View). v.flight) j.view ∙ free.1.0, ap (λ (v : View). v.owed) j.view ∙ ap (λ (xs : List ℕ). xs ++ seat.view.owed) free.1.1 ∙ left.1.1))

pub free-returns : (board : Posted) (seat : Seated) → IsFree board seat → (seat.view.flight ≢ None) ⊎ (seat.view.owed ≢ []) → ⊥
free-returns board seat free (inl flying) = flying free.1.0
free-returns board seat free (inr owing) = owing free.1.1
