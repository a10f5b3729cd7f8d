use Rattle.dtman_words.proofs.grammar.add_definitions.Goals as goal

pub returns : goal.returns
returns c = λ app makes.
    let folder = c.add_argument-command.ensures _ _ makes c.listed.ensures.rule in
    let define = c.add_argument-command-2.ensures _ _ folder c.listed-2.ensures.rule in
    c.add_argument.ensures _ _ define c.again.ensures.rule
