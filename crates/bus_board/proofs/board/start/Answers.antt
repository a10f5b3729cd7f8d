use Rattle.std.proofs.Common.{ap}
use Rattle.atomic_table.specs.Table.{Me}
use Rattle.bus_board.proofs.SeatsInTurn.{opens_as}
use Rattle.bus_board.specs.declared.view.View.{View}
use Rattle.bus_board.proofs.board.start.Goals as goal

pub returns-in-Ok-first_parts-clause-words : goal.returns-in-Ok-first_parts-clause-words
returns-in-Ok-first_parts-clause-words c =
    opens_as c.args.core c.in-Ok-first_parts.token.me.0 (ap (λ (m : Me (Unit {0}) View). m.0) c.in-Ok-first_parts.ensures.table.4) c.check.ensures c.check_settled.ensures
