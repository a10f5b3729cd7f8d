use Rattle.std.proofs.Common.{true, Some, Ok, sym, ap, ◌∙◌}
use Rattle.dt_tree.specs.Steps.{then_do}
use Rattle.dt_source.specs.Tree.{reference_at}
use Rattle.dt_source.specs.TreeMeaning.DtcEdits.{with_mark}
use Rattle.dt_build.specs.Edit.Said.{pieces}
use Rattle.dt_build.specs.Edit.Private.DtcEdited.{placed_of}
use Rattle.dt_build.proofs.EditLemmas.FaultPlaces.{placed-exit}
use Rattle.dt_build.proofs.edit.dtc_named.omit.Goals as goal

pub returns-clause-item : goal.returns-clause-item
returns-clause-item c =
    let t = placed_of c.args.placed.now in
    ap (λ r. then_do r (λ p. Ok (with_mark true p t))) c.in_ok-node.ensures.node ∙ ap (λ u. Ok u) (sym (c.in_ok-mark.ensures.tree pieces))

pub returns-in_err-node-clause-at : goal.returns-in_err-node-clause-at
returns-in_err-node-clause-at c =
    placed-exit (Some (reference_at c.args.target.now)) c.from_residual.result c.in_err-node.field-0.0 c.from_residual.ensures.1 c.in_err-node.ensures.at
