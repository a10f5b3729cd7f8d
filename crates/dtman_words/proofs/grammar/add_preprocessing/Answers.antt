use Rattle.dtman_words.proofs.grammar.add_preprocessing.Goals as goal

pub returns : goal.returns
returns c = λ app makes.
    let always = c.add_argument-command.ensures _ _ (c.add_definitions-command.ensures _ makes) c.flag.ensures.rule in
    c.add_argument.ensures _ _ always c.flag-2.ensures.rule
