use Rattle.dtman_words.proofs.grammar.add_telling.Goals as goal

pub returns : goal.returns
returns c = λ app makes. c.add_argument.ensures _ _ (c.add_argument-command.ensures _ _ makes c.counted.ensures.rule) c.flag.ensures.rule
