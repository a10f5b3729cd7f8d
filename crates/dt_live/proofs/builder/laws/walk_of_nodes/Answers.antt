use Rattle.dt_live.proofs.BuilderLemmas.InTurn.{each-once, in-turn}
use Rattle.dt_live.proofs.builder.laws.walk_of_nodes.Goals as goal

pub returns-clause-once : goal.returns-clause-once
returns-clause-once c = each-once

pub returns-clause-followed : goal.returns-clause-followed
returns-clause-followed c = λ nodes are. in-turn nodes
