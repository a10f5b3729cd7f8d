use Rattle.std.proofs.Common.{subst}
use Rattle.bus_core.specs.CoreState.{CoreValue}
use Rattle.bus_board.specs.Rule.{OpensAs}
use Rattle.bus_board.proofs.board.open_plan.Goals as goal

pub returns-in-Ok-clause-words : goal.returns-in-Ok-clause-words
returns-in-Ok-clause-words c = subst (λ (core : CoreValue). OpensAs core c.in-Ok.started.1.view) c.in_ok-core.ensures c.in-Ok.ensures.words
