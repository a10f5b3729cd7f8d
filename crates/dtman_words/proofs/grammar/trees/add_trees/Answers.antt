use Rattle.dtman_words.specs.Grammar as spec
use Rattle.dtman_words.proofs.grammar.trees.add_trees.Goals as goal

pub returns : goal.returns
returns c = λ before makes.
    c.add_subcommand.ensures _ spec.map
    (c.add_subcommand-app-2.ensures _ spec.who (c.add_subcommand-app.ensures _ spec.find makes c.find.ensures) c.who.ensures)
    c.map.ensures
