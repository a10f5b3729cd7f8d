use Rattle.dtman_words.proofs.Making.{first_argument}
use Rattle.dtman_words.proofs.grammar.drivers.Goals as goal

pub returns : goal.returns
returns c =
    let first = first_argument c.named.result c.required-aliases.result c.arg-command.result _ _ c.named.ensures.shape c.named.ensures.globals c.required-aliases.ensures.local c.arg-command.ensures c.required-aliases.ensures.rule in
    let builtin = c.add_argument-command.ensures _ _ first c.optional.ensures.rule in
    c.add_argument.ensures _ _ builtin c.asked_text.ensures.rule
