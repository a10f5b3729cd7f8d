use Rattle.std.proofs.Common.{◌≡◌, ◌-◌, Some, suc, ap, arith, rules}
use Rattle.dt_source.specs.Tree.{reference_at, target_view}
use Rattle.dt_live.specs.Rows.{node_path}
use Rattle.dt_build.proofs.EditLemmas.FaultPlaces.{placed-exit}
use Rattle.dt_build.proofs.EditLemmas.ItemSteps.{node-deleted, not-root}
use Rattle.dt_build.proofs.edit.items.delete.Goals as goal

pub returns-clause-item : goal.returns-clause-item
returns-clause-item c made =
    let old = c.args.live.now in
    let node = c.in_ok-node.node in
    let at : node ≡ suc (node - 1) = omega (arith, c.if-node-eq0.false) in
    node-deleted made.count old c.remove_node.new.self (target_view c.args.target.now) (node_path old node) c.in_ok-node.ensures.node
    (not-root old c.requires.sound node (node - 1) at) c.remove_node.ensures.state

pub returns-then-node-eq0-clause-item : goal.returns-then-node-eq0-clause-item
returns-then-node-eq0-clause-item c = search rules

pub returns-in_err-node-clause-at : goal.returns-in_err-node-clause-at
returns-in_err-node-clause-at c =
    placed-exit (Some (reference_at c.args.target.now)) c.from_residual.result c.in_err-node.field-0.0 c.from_residual.ensures.1 (λ some. ap Some c.in_err-node.ensures.at)

pub returns-then-node-eq0-clause-at : goal.returns-then-node-eq0-clause-at
returns-then-node-eq0-clause-at c some = ap Some c.at.ensures
