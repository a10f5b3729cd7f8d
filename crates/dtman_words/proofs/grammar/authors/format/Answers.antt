use Rattle.dtman_words.proofs.Making.{first_argument}
use Rattle.dtman_words.proofs.grammar.authors.format.Goals as goal

pub returns : goal.returns
returns c =
    let first = first_argument c.named.result c.required.result c.arg-command.result _ _ c.named.ensures.shape c.named.ensures.globals c.required.ensures.local c.arg-command.ensures c.required.ensures.rule in
    let hex = c.add_argument-command.ensures _ _ first c.flag.ensures.rule in
    let checked = c.add_argument-command-2.ensures _ _ hex c.flag-2.ensures.rule in
    let compared = c.add_argument-command-3.ensures _ _ checked c.flag-3.ensures.rule in
    c.add_argument.ensures _ _ compared c.lettered.ensures.rule
