use Rattle.std.proofs.Common.{sym}
use Rattle.std.proofs.lemmas.Result.{err_from_is_err_and}
use Rattle.dt_tree.specs.Path.{path_names}
use Rattle.dt_patch.specs.View.Reaching.{before_node}
use Rattle.dt_patch.proofs.Found.{no_property, no_value}
use Rattle.dt_patch.proofs.placing.property_place.Goals as goal

pub returns-in_err-node-clause-stands : goal.returns-in_err-node-clause-stands
returns-in_err-node-clause-stands c =
    let p = err_from_is_err_and c.from_residual.result c.from_residual.ensures.1 in
    λ tree v. rw (p.1, p.2) (λ size. no_value tree.root c.args.path.now c.args.name.now size _ (c.in_err-node.ensures tree v))

pub returns-in-Ok-Some-clause-stands : goal.returns-in-Ok-Some-clause-stands
returns-in-Ok-Some-clause-stands c = λ tree v.
    let n = c.in_ok-node.ensures tree v in
    record {
      is_path = n.is_path;
      node = n.node;
      there = n.there;
      value = sym (rw c.in-Ok-Some.field-0-is at (c.in-Ok-Some.ensures.stands n.node n.stands));
      reached = rw c.in-Ok-Some.field-0-is at (c.in-Ok-Some.ensures.reached n.node (before_node tree.root (path_names c.args.path.now)) n.stands n.reached);
    }

pub returns-in-Ok-None-clause-stands : goal.returns-in-Ok-None-clause-stands
returns-in-Ok-None-clause-stands c = λ tree v size.
    let n = c.in_ok-node.ensures tree v in
    no_property tree.root n.node c.args.path.now c.args.name.now size n.is_path n.there (sym (rw c.in-Ok-None.field-0-is at (c.in-Ok-None.ensures.stands n.node n.stands)))

pub returns-in-Err-clause-stands : goal.returns-in-Err-clause-stands
returns-in-Err-clause-stands c = λ tree v.
    let n = c.in_ok-node.ensures tree v in
    absurd (c.in-Err.ensures.stands n.node n.stands)
