-- Each subcommand is added behind those before it.
use Rattle.dtman_words.specs.Grammar as spec
use Rattle.dtman_words.specs.Grammar.{dtman}
use Rattle.dtman_words.proofs.grammar.grammar.Goals as goal

pub returns : goal.returns
unfolding dtman
returns c = c.add_subcommand.ensures _ spec.explain (c.add_authors-app.ensures _ (c.add_blobs-app.ensures _ (c.add_trees-app.ensures _ (c.add_questions-app.ensures _ (c.add_subcommand-app-7.ensures _ spec.probe (c.add_subcommand-app-6.ensures _ spec.replay (c.add_subcommand-app-5.ensures _ spec.plan (c.add_subcommand-app-4.ensures _ spec.dump (c.add_subcommand-app-3.ensures _ spec.overlay (c.add_subcommand-app-2.ensures _ spec.preprocess (c.add_subcommand-app.ensures _ spec.compile (c.top.ensures.shape, c.top.ensures.globals) c.compile.ensures) c.preprocess.ensures) c.overlay.ensures) c.dump.ensures) c.plan.ensures) c.replay.ensures) c.probe.ensures))))) c.explain.ensures
