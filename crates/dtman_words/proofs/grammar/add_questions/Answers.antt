use Rattle.dtman_words.specs.Grammar as spec
use Rattle.dtman_words.proofs.grammar.add_questions.Goals as goal

pub returns : goal.returns
returns c = λ before makes.
    c.add_subcommand.ensures _ spec.trace (c.add_subcommand-app-3.ensures _ spec.drivers (c.add_subcommand-app-2.ensures _ spec.needs (c.add_subcommand-app.ensures _ spec.why makes c.why.ensures) c.needs.ensures) c.drivers.ensures) c.trace.ensures
