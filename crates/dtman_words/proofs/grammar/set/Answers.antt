use Rattle.dtman_words.proofs.Making.{first_argument}
use Rattle.dtman_words.proofs.grammar.set.Goals as goal

pub returns : goal.returns
returns c =
    let first = first_argument c.named.result c.required.result c.arg-command.result _ _ c.named.ensures.shape c.named.ensures.globals c.required.ensures.local c.arg-command.ensures c.required.ensures.rule in
    let path = c.add_argument-command.ensures _ _ first c.required-2.ensures.rule in
    let property = c.add_argument-command-2.ensures _ _ path c.required-3.ensures.rule in
    let values = c.add_argument-command-3.ensures _ _ property c.others.ensures.rule in
    let kind = c.add_argument-command-4.ensures _ _ values c.lettered.ensures.rule in
    c.add_argument.ensures _ _ kind c.lettered-2.ensures.rule
