use Rattle.dtman_words.proofs.Making.{first_argument}
use Rattle.dtman_words.proofs.grammar.why.Goals as goal

pub returns : goal.returns
returns c =
    let first = first_argument c.named.result c.required.result c.arg-command.result _ _ c.named.ensures.shape c.named.ensures.globals c.required.ensures.local c.arg-command.ensures c.required.ensures.rule in
    let drivers = c.add_argument-command.ensures _ _ first c.required-2.ensures.rule in
    let path = c.add_argument-command-2.ensures _ _ drivers c.optional.ensures.rule in
    c.add_timeout.ensures _ (c.add_argument-command-3.ensures _ _ path c.flag.ensures.rule)
