use Rattle.dt_patch.proofs.ViewLemmas.Overviews.{is_over_blocks, views_shown}
use Rattle.dt_patch.proofs.view.view.View.over.Goals as goal

pub returns-clause-shown : goal.returns-clause-shown
returns-clause-shown c =
    let v = c.view_of.ensures in
    λ tree s. views_shown c.args.bytes.now c.view_of.result tree (is_over_blocks c.args.bytes.now c.view_of.result c.in_ok-parts.parts c.in_ok-parts.ensures.0 v.reserves v.structure v.strings v.boot_cpu) s

pub returns-clause-blocks : goal.returns-clause-blocks
returns-clause-blocks c =
    let v = c.view_of.ensures in
    is_over_blocks c.args.bytes.now c.view_of.result c.in_ok-parts.parts c.in_ok-parts.ensures.0 v.reserves v.structure v.strings v.boot_cpu
