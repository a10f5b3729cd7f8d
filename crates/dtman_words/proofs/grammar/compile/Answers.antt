use Rattle.dtman_words.proofs.Making.{first_argument}
use Rattle.dtman_words.proofs.grammar.compile.Goals as goal

pub returns : goal.returns
returns c =
    let first = first_argument c.named.result c.required.result c.arg-command.result _ _ c.named.ensures.shape c.named.ensures.globals c.required.ensures.local c.arg-command.ensures c.required.ensures.rule in
    let out = c.add_argument-command.ensures _ _ first c.required-2.ensures.rule in
    let symbols = c.add_argument-command-2.ensures _ _ out c.flag.ensures.rule in
    let dtc = c.add_argument-command-3.ensures _ _ symbols c.flag-2.ensures.rule in
    let include = c.add_argument.ensures _ _ dtc c.in_ok-include.ensures.0 in
    let preprocessing = c.add_preprocessing-command.ensures _ include in
    c.add_argument-2.ensures _ _ preprocessing c.asked_text.ensures.rule
