use Rattle.std.proofs.Common.{◌≡◌}
use Rattle.bus_board.proofs.Walks.{Walk, tries}
use Rattle.bus_board.proofs.claiming.claim_any.Given as goal

abbrev pub invariant-loop-index : goal.invariant-loop-index
invariant-loop-index l = (l.token.table_id ≡ l.initial.token.table_id) × (l.token.me.1 ≡ l.initial.token.me.1) × Walk l.initial.token.me.0 l.token.me (tries l.index)
