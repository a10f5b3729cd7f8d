use Rattle.dtman_words.proofs.Making.{first_argument}
use Rattle.dtman_words.proofs.grammar.trees.map.Goals as goal

pub returns : goal.returns
returns c = first_argument c.named.result c.required.result c.arg.result _ _ c.named.ensures.shape c.named.ensures.globals c.required.ensures.local c.arg.ensures c.required.ensures.rule
