use Rattle.std.proofs.Common.{sym, ◌∙◌}
use Rattle.std.specs.Prelude.{is_ok}
use Rattle.dt_source.specs.TreeMeaning.DtcEdits.{named_node}
use Rattle.dt_source.specs.TreeMeaning.Syntax.{OfLabel}
use Rattle.dt_build.specs.Edit.Said.{pieces}
use Rattle.dt_build.specs.Edit.Private.DtcEdited.{placed_of}
use Rattle.dt_build.proofs.EditLemmas.DtcTargets.{label-used, turned}
use Rattle.dt_build.proofs.edit.dtc_named.is_unused.Goals as goal

pub returns : goal.returns
returns c =
    let d = c.args.placed.now in
    let l = c.args.label.now in
    turned c.is_none.result (is_ok (named_node (OfLabel l) (placed_of d))) (sym c.is_none.ensures ∙ label-used d l c.in_ok-node.node (c.in_ok-node.ensures.node pieces))
