use Rattle.std.proofs.Common.{◌≡◌, ◌-◌, Some, suc, Ok, sym, ap, ◌∙◌, arith}
use Rattle.dt_source.specs.Tree.{reference_at, target_view}
use Rattle.dt_live.specs.Placed.PlacedTrees.{node_path}
use Rattle.dt_build.specs.Edit.Said.{pieces}
use Rattle.dt_build.proofs.EditLemmas.DtcTargets.{deleted, not-root}
use Rattle.dt_build.proofs.EditLemmas.FaultPlaces.{placed-exit}
use Rattle.dt_build.proofs.edit.dtc_named.delete.Goals as goal

pub returns-clause-item : goal.returns-clause-item
returns-clause-item c =
    let d = c.args.placed.now in
    let node = c.in_ok-node.node in
    let at : node ≡ suc (node - 1) = omega (arith, c.if-node-eq0.false) in
    deleted d (target_view c.args.target.now) (node_path d node) c.in_ok-node.ensures.node (not-root d c.requires.ready node (node - 1) at)
    ∙ ap (λ t. Ok t) (sym (c.remove_node.ensures.tree pieces))

pub returns-in_err-node-clause-at : goal.returns-in_err-node-clause-at
returns-in_err-node-clause-at c =
    placed-exit (Some (reference_at c.args.target.now)) c.from_residual.result c.in_err-node.field-0.0 c.from_residual.ensures.1 c.in_err-node.ensures.at

pub returns-then-node-eq0-clause-at : goal.returns-then-node-eq0-clause-at
returns-then-node-eq0-clause-at c some = ap Some c.at.ensures
