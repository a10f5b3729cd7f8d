use Rattle.std.proofs.Common.{◌≡◌, sym, subst, ap, ◌∙◌, arith}
use Rattle.atomic_table.specs.Table.{Me}
use Rattle.bus_core.specs.History.{IsBusHistory}
use Rattle.bus_board.proofs.Allowed.{note_allowed}
use Rattle.bus_board.proofs.SeatsInTurn.{join_allowed, joined_told}
use Rattle.bus_board.specs.Learns.{JoinedBy}
use Rattle.bus_board.specs.Outcomes.{IsFront}
use Rattle.bus_board.specs.Shown.{Posted, Seated}
use Rattle.bus_board.specs.Views.{both}
use Rattle.bus_board.specs.declared.view.View.{View}
use Rattle.bus_board.proofs.board.Board.give_back.Goals as goal

pub join_seat-requires : goal.join_seat-requires
join_seat-requires c =
    let inv = c.self.invariant in
    let at = sym (ap (λ (x : Posted). x.table) c.self.view_is) in (
      ap (λ (x : Seated). x.table) c.into.view_is ∙ c.requires.into.0 ∙ at,
      ap (λ (x : Seated). x.table) c.seat.view_is ∙ c.requires.seat.0 ∙ at,
      c.seat.invariant.slots,
      omega (arith, inv.1),
      join_allowed _ _ _ _ _ c.into.invariant.live (ap (λ (x : Seated). x.view.flight) c.seat.view_is ∙ (c.is_free.ensures.yes c.if-not-is_free.false).0),
    )

pub load-requires : goal.load-requires
load-requires c =
    let inv = c.self.invariant in
    let j = c.join_seat.ensures in (
      j.0 ∙ ap (λ (x : Seated). x.table) c.into.view_is ∙ c.requires.into.0 ∙ sym (ap (λ (x : Posted). x.table) c.self.view_is),
      omega (arith, inv.1, c.len.ensures),
      note_allowed _ _ _ c.join_seat.new.seat.me _ (ap (λ m. m.0.live) j.2 ∙ c.into.invariant.live),
    )

pub returns-clause-ok : goal.returns-clause-ok
returns-clause-ok c =
    let v = c.into.inside.token.me.0 in
    let w = c.seat.inside.token.me.0 in
    let j = c.join_seat.ensures.2 in
    let m = c.join_seat.new.seat.me.0 in
    let n = c.load.ensures.2 in
    let is : m ≡ both v w = ap (λ (x : Me (Unit {0}) View). x.0) j in
    let told = joined_told v w c.load.new.seat.me.0 n.log (n.view ∙ is)
    (subst (λ (x : View). IsBusHistory x.plan n.log) is n.sees.lawful) (subst (λ (x : View). IsFront x.seen n.log) is n.sees.seen) (subst (λ (x : View). IsFront x.told n.log) is n.sees.told) in (
      (c.is_free.ensures.yes c.if-not-is_free.false).0,
      (c.is_free.ensures.yes c.if-not-is_free.false).1,
      subst (λ (s : Seated). JoinedBy s.view c.args.seat.view c.load.new.seat.me.0) c.into.view_is (subst (λ (s : Seated). JoinedBy v s.view c.load.new.seat.me.0) c.seat.view_is told),
    )
