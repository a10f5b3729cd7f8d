use Rattle.std.proofs.Common.{sym, ap, ◌∙◌}
use Rattle.dt_live.specs.Builder.Standing.{walked}
use Rattle.dt_build.proofs.ListsOfPrepared.{lists-unwanted}
use Rattle.dt_build.proofs.making.with_labels.Goals as goal

pub returns-then-not-symbols : goal.returns-then-not-symbols
returns-then-not-symbols c = c.in_ok-nodes.ensures ∙ ap walked (sym (lists-unwanted c.args.symbols c.args.draft.now c.if-not-symbols.true))
