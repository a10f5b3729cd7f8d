use Rattle.std.proofs.Common.{sym, ap, ◌∙◌, arith}
use Rattle.bus_board.proofs.SeatsInTurn.{split_allowed}
use Rattle.bus_board.specs.Shown.{Posted, Seated}
use Rattle.bus_board.proofs.board.Board.seat.Goals as goal

pub split_seat-token-requires : goal.split_seat-token-requires
split_seat-token-requires c = let inv = c.self.invariant in (
  ap (λ (x : Seated). x.table) c.seat.view_is ∙ c.requires.0 ∙ sym (ap (λ (x : Posted). x.table) c.self.view_is),
  omega (arith, inv.1),
  split_allowed _ _ _ c.seat.invariant.live,
)
