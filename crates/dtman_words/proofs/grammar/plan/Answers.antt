use Rattle.dtman_words.proofs.Making.{first_argument}
use Rattle.dtman_words.proofs.grammar.plan.Goals as goal

pub returns : goal.returns
returns c =
    let first = first_argument c.named.result c.required.result c.arg-command.result _ _ c.named.ensures.shape c.named.ensures.globals c.required.ensures.local c.arg-command.ensures c.required.ensures.rule in
    let links = c.add_links-command.ensures _ (c.add_picture.ensures _ (c.add_argument-command.ensures _ _ first c.required-2.ensures.rule)) in
    c.add_argument.ensures _ _ links c.in_ok-late.ensures.0
