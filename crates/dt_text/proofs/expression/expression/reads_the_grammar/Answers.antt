use Rattle.dt_text.proofs.ExpressionLemmas.Trees.{reads_what_is_spelled, reads_all_that_is_spelled, spells_one}
use Rattle.dt_text.proofs.expression.expression.reads_the_grammar.Goals as goal

pub returns-clause-read : goal.returns-clause-read
returns-clause-read c = reads_what_is_spelled

pub returns-clause-spelled : goal.returns-clause-spelled
returns-clause-spelled c = reads_all_that_is_spelled

pub returns-clause-one : goal.returns-clause-one
returns-clause-one c = spells_one
