use Rattle.dtman_words.proofs.Making.{first_argument}
use Rattle.dtman_words.proofs.grammar.check.Goals as goal

pub returns : goal.returns
returns c =
    let first = first_argument c.named.result c.several.result c.arg-command.result _ _ c.named.ensures.shape c.named.ensures.globals c.several.ensures.local c.arg-command.ensures c.several.ensures.rule in
    let dtc = c.add_argument-command.ensures _ _ first c.flag.ensures.rule in
    let include = c.add_argument-command-2.ensures _ _ dtc c.listed.ensures.rule in
    let telling = c.add_telling-command.ensures _ (c.add_selection-command.ensures _ include) in
    let known = c.add_argument-command-3.ensures _ _ telling c.asked_text.ensures.rule in
    let learn = c.add_argument-command-4.ensures _ _ known c.flag-2.ensures.rule in
    c.add_preprocessing.ensures _ learn
