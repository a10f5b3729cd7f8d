use Rattle.dtman_words.specs.Grammar as spec
use Rattle.dtman_words.proofs.grammar.add_blobs.Goals as goal

pub returns : goal.returns
returns c = λ before makes.
    let checked = c.add_subcommand-app.ensures _ spec.check makes c.check.ensures in
    c.add_subcommand.ensures _ spec.set (c.add_subcommand-app-4.ensures _ spec.list (c.add_subcommand-app-3.ensures _ spec.get (c.add_subcommand-app-2.ensures _ spec.diff checked c.diff.ensures) c.get.ensures) c.list.ensures) c.set.ensures
