use Rattle.std.proofs.Common.{ap, ◌∙◌}
use Rattle.dt_source.specs.Tree.{target_view}
use Rattle.dt_source.specs.TreeMeaning.References as meaning
use Rattle.dt_build.specs.Edit.Said.{tree_of}
use Rattle.dt_build.proofs.ResolveLemmas.FindingSteps.{cell-open}
use Rattle.dt_build.proofs.resolve.references.cell_of.Goals as goal

pub returns-then-plugin-clause-cell : goal.returns-then-plugin-clause-cell
returns-then-plugin-clause-cell c =
    let s = tree_of c.args.live.now in
    let label = c.in-Label.label.now in
    (label, ap (λ x. meaning.cell_of c.args.plugin s (target_view x)) c.in-Label.is ∙ cell-open c.args.plugin s label c.if-plugin.true c.in-None.ensures.path)
