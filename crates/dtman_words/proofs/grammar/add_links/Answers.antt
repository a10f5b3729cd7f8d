use Rattle.dtman_words.proofs.grammar.add_links.Goals as goal

pub returns : goal.returns
returns c = λ app makes. c.add_argument.ensures _ _ (c.add_argument-command.ensures _ _ makes c.asked_text.ensures.rule) c.in_ok-strict.ensures.0
