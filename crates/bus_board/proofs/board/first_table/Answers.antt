use Rattle.std.proofs.Common.{ℕ, List, sym, subst}
use Rattle.bus_board.proofs.SeatsInTurn.{opening_holds}
use Rattle.bus_board.specs.Opening.{AreFirst}
use Rattle.bus_board.proofs.board.first_table.Goals as goal

pub of_words-requires : goal.of_words-requires
of_words-requires c = opening_holds c.args.core.now _ (subst (λ (ws : List ℕ). AreFirst c.args.core.now ws) (sym c.deref.ensures.value) c.in_ok-words.ensures) c.check.ensures c.check_settled.ensures
