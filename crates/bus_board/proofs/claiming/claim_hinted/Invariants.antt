use Rattle.std.proofs.Common.{◌≡◌}
use Rattle.bus_board.specs.Private.Tries.{HasTried}
use Rattle.bus_board.proofs.claiming.claim_hinted.Given as goal

abbrev pub invariant-loop-hint : goal.invariant-loop-hint
invariant-loop-hint l = (l.token.table_id ≡ l.initial.token.table_id) × (l.token.me.1 ≡ l.initial.token.me.1) × HasTried l.initial.token.me.0 l.token.me.0
