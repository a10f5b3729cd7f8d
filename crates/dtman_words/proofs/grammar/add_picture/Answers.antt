use Rattle.dtman_words.proofs.grammar.add_picture.Goals as goal

pub returns : goal.returns
returns c = λ app makes.
    c.add_argument.ensures _ _
    (c.add_argument-command-2.ensures _ _ (c.add_argument-command.ensures _ _ makes c.flag.ensures.rule) c.flag-2.ensures.rule)
    c.asked_text.ensures.rule
