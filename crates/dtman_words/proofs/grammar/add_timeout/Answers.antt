use Rattle.dtman_words.proofs.grammar.add_timeout.Goals as goal

pub returns : goal.returns
returns c = λ app makes. c.add_argument.ensures _ _ (c.add_links-command.ensures _ makes) c.in_ok-timeout.ensures.0
