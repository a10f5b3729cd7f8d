use Rattle.dtman_words.proofs.Making.{first_argument}
use Rattle.dtman_words.proofs.grammar.authors.serve.Goals as goal

pub returns : goal.returns
returns c =
    first_argument c.named.result c.listed-folders.result c.arg.result _ _ c.named.ensures.shape c.named.ensures.globals c.listed-folders.ensures.local c.arg.ensures c.listed-folders.ensures.rule
