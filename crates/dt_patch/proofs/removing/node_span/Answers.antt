use Rattle.std.proofs.Common.{arith}
use Rattle.std.proofs.lemmas.Result.{err_from_is_err_and}
use Rattle.dt_tree.specs.Path.{path_names}
use Rattle.dt_patch.specs.View.Reaching.{before_node}
use Rattle.dt_patch.proofs.Cuts.{node_out}
use Rattle.dt_patch.proofs.Found.{is_removed, is_root, isnt_removed}
use Rattle.dt_patch.proofs.Slashes.{one_byte, some_names}
use Rattle.dt_patch.proofs.removing.node_span.Goals as goal

pub returns-in_err-node-clause-stands : goal.returns-in_err-node-clause-stands
returns-in_err-node-clause-stands c =
    let p = err_from_is_err_and c.from_residual.result c.from_residual.ensures.1 in
    λ tree v. rw (p.1, p.2) (isnt_removed tree.root c.args.path.now _ (c.in_err-node.ensures tree v))

pub returns-then-path-lt2-clause-stands : goal.returns-then-path-lt2-clause-stands
returns-then-path-lt2-clause-stands c = λ tree v.
    let n = c.in_ok-node.ensures tree v in
    is_root tree.root c.args.path.now n.is_path (one_byte c.args.path.now (omega arith))

pub returns-in-Ok-clause-stands : goal.returns-in-Ok-clause-stands
returns-in-Ok-clause-stands c = λ tree v.
    let n = c.in_ok-node.ensures tree v in
    is_removed tree.root n.node c.args.path.now n.is_path (some_names c.args.path.now (omega arith)) n.there

pub returns-in-Ok-clause-turns : goal.returns-in-Ok-clause-turns
returns-in-Ok-clause-turns c = λ bytes tree v h.
    let n = c.in_ok-node.ensures tree v in
    node_out c.args.view.now tree c.args.path.now c.in_ok-node.node c.in-Ok.next n (some_names c.args.path.now (omega arith)) (c.in-Ok.ensures.reached n.node (before_node tree.root (path_names c.args.path.now)) n.stands n.reached) h.limits

pub returns-in-Ok-clause-inside : goal.returns-in-Ok-clause-inside
returns-in-Ok-clause-inside c =
    let further = c.in-Ok.ensures.further in
    record { first = omega (arith, further); inside = c.in-Ok.ensures.inside }

pub returns-in-Err-clause-stands : goal.returns-in-Err-clause-stands
returns-in-Err-clause-stands c = λ tree v.
    let n = c.in_ok-node.ensures tree v in
    absurd (c.in-Err.ensures.reached n.node (before_node tree.root (path_names c.args.path.now)) n.stands n.reached)
