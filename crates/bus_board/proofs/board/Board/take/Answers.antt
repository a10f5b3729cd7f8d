use Rattle.std.proofs.Common.{◌≡◌, ◌<◌, ◌≤◌, ◌+◌, ℕ, List, [], Option, None, Some, length, refl, subst, sym, ap, ◌∙◌, arith}
use Rattle.std.specs.Prelude.{slice_index}
use Rattle.atomic_table.specs.Table.{Me}
use Rattle.bus_plan.specs.Plan.{PlannedDevice, suppliers_of}
use Rattle.bus_core.specs.History.{IsBusHistory}
use Rattle.bus_board.proofs.Tied.{idle_seat, none_open}
use Rattle.bus_board.specs.Learns.{Claimed, Passed}
use Rattle.bus_board.specs.Private.Ties.{Carries, IsTied, looks_at}
use Rattle.bus_board.specs.Shown.{Posted, Seated}
use Rattle.bus_board.specs.declared.flight.Open.{Open}
use Rattle.bus_board.specs.declared.view.View.{View}
use Rattle.bus_board.proofs.board.Board.take.Goals as goal

-- a seat with no flight, in other room
tied_in : (m : Me (Unit {0}) View) (e : Option Open) (owed new : List ℕ) (count room count2 room2 : ℕ) → new ≡ owed → e ≡ None → IsTied m e owed count room → IsTied m e new count2 room2
tied_in m e owed new count room count2 room2 same idle tied = record {
  slots = tied.slots;
  live = tied.live;
  lawful = tied.lawful;
  flight = tied.flight;
  debts = tied.debts ∙ sym same;
  within = subst (λ (xs : List ℕ). (i : ℕ) → i < length xs → slice_index xs i < length m.0.plan) (sym same) tied.within;
  roomy = λ flying. absurd (flying idle);
}

-- one that lost each claim
tied_passed : (m n : Me (Unit {0}) View) (e : Option Open) (owed : List ℕ) (count room : ℕ) → Passed m.0 n.0 → n.1 ≡ m.1 → IsTied m e owed count room → e ≡ None → IsTied n e owed count room
tied_passed m n e owed count room passed slots tied idle = record {
  slots = slots ∙ tied.slots;
  live = ap (λ (w : View). w.live) passed.view ∙ tied.live;
  lawful = subst (λ (w : View). IsBusHistory w.plan w.seen) (sym passed.view) passed.lawful;
  flight = subst (λ (w : View). Carries w.plan w.flight e) (sym passed.view) tied.flight;
  debts = ap (λ (w : View). w.owed) passed.view ∙ tied.debts;
  within = subst (λ (w : View). (i : ℕ) → i < length owed → slice_index owed i < length w.plan) (sym passed.view) tied.within;
  roomy = λ flying. absurd (flying idle);
}

-- one that won a claim, with no look yet
tied_claimed : (m n : Me (Unit {0}) View) (e : Option Open) (x : Open) (d : ℕ) (owed new : List ℕ) (count room count2 room2 : ℕ) → Claimed m.0 n.0 d → n.1 ≡ m.1 → new ≡ owed
    → x.device ≡ d → x.looks.items ≡ looks_at [] (suppliers_of m.0.plan d) → count2 + length m.0.plan ≤ room2 → IsTied m e owed count room → IsTied n (Some x) new count2 room2
tied_claimed m n e x d owed new count room count2 room2 won slots same device looks roomy tied = record {
  slots = slots ∙ tied.slots;
  live = ap (λ (w : View). w.live) won.view ∙ tied.live;
  lawful = subst (λ (w : View). IsBusHistory w.plan w.seen) (sym won.view) won.lawful;
  flight = subst (λ (w : View). Carries w.plan w.flight (Some x)) (sym won.view) (won.inside, device, looks);
  debts = ap (λ (w : View). w.owed) won.view ∙ tied.debts ∙ sym same;
  within = subst (λ (w : View). (i : ℕ) → i < length new → slice_index new i < length w.plan) (sym won.view)
      (subst (λ (xs : List ℕ). (i : ℕ) → i < length xs → slice_index xs i < length m.0.plan) (sym same) tied.within);
  roomy = λ _. subst (λ (w : View). count2 + length w.plan ≤ room2) (sym won.view) roomy;
}

pub claim-requires-clause-seat : goal.claim-requires-clause-seat
claim-requires-clause-seat c = (
  ap (λ (x : Seated). x.view.plan) c.seat.view_is ∙ c.requires.1 ∙ sym (ap (λ (x : Posted). x.plan) c.self.view_is),
  c.seat.invariant.live,
  idle_seat c.seat.inside.token.me _ _ _ _ c.seat.invariant (none_open c.seat.inside.flight c.if-is_some.ensures),
  c.seat.invariant.lawful,
)

pub first_looks-looks-requires : goal.first_looks-looks-requires
first_looks-looks-requires c =
    let most : length (suppliers_of c.self.inside.plan c.in-Some.device) ≤ c.self.inside.most_suppliers = c.self.invariant.5 c.in-Some.device in
    (c.in_ok-room.ensures.items, omega (arith, most, ap (length {A = ℕ}) c.suppliers.ensures, c.in_ok-room.ensures.exact))

pub invariant_of-seat : goal.invariant_of-seat
invariant_of-seat c =
    tied_in c.seat.inside.token.me c.seat.inside.flight c.seat.inside.owed.items c.reserve.new.self.items _ _ _ _ c.in_err-reserve.ensures.items
    (none_open c.seat.inside.flight c.if-is_some.ensures) c.seat.invariant

pub invariant_of-seat-in_default : goal.invariant_of-seat-in_default
invariant_of-seat-in_default c =
    let idle : c.seat.inside.flight ≡ None = none_open c.seat.inside.flight c.if-is_some.ensures in
    tied_in c.claim.new.token.me c.seat.inside.flight c.seat.inside.owed.items c.reserve.new.self.items _ _ _ _ c.in_ok-reserve.ensures.items idle
    (tied_passed c.seat.inside.token.me c.claim.new.token.me c.seat.inside.flight c.seat.inside.owed.items _ _ c.in_default.ensures.none c.in_default.ensures.same.1 c.seat.invariant idle)

pub invariant_of-seat-2 : goal.invariant_of-seat-2
invariant_of-seat-2 c =
    let m = c.seat.inside.token.me in
    let plan_is : m.0.plan ≡ c.self.inside.plan = ap (λ (x : Seated). x.view.plan) c.seat.view_is ∙ c.requires.1 ∙ sym (ap (λ (x : Posted). x.plan) c.self.view_is) in
    tied_claimed m c.claim.new.token.me c.seat.inside.flight _ c.in-Some.device c.seat.inside.owed.items c.reserve.new.self.items _ _ _ _ c.in-Some.ensures.claimed c.in-Some.ensures.same.1 c.in_ok-reserve.ensures.items
    refl (c.first_looks-looks.ensures ∙ ap (looks_at []) (c.suppliers.ensures ∙ ap (λ (p : List PlannedDevice). suppliers_of p c.in-Some.device) (sym plan_is)))
    (omega (arith, c.in_ok-reserve.ensures.ok, c.len.ensures, ap (length {A = PlannedDevice}) plan_is)) c.seat.invariant

pub returns-clause-idle : goal.returns-clause-idle
returns-clause-idle c =
    subst (λ (s : Seated). s.view.flight ≡ None) c.seat.view_is (idle_seat c.seat.inside.token.me _ _ _ _ c.seat.invariant (none_open c.seat.inside.flight c.if-is_some.ensures))
