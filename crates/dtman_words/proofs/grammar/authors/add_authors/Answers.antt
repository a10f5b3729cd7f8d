use Rattle.dtman_words.specs.Grammar as spec
use Rattle.dtman_words.proofs.grammar.authors.add_authors.Goals as goal

pub returns : goal.returns
returns c = λ before makes.
    c.add_subcommand.ensures _ spec.serve (c.add_subcommand-app.ensures _ spec.format makes c.format.ensures) c.serve.ensures
