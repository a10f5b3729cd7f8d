use Rattle.std.proofs.Common.{Some, ap, sym, ◌∙◌, arith}
use Rattle.std.proofs.lemmas.Result.{err_from_is_err_and}
use Rattle.dt_tree.specs.Path.{path_names}
use Rattle.dt_patch.specs.View.Reaching.{before_node}
use Rattle.dt_patch.proofs.Cuts.{node_in}
use Rattle.dt_patch.proofs.Found.{bad_child, deep_child, isnt_grown, known_child, new_child}
use Rattle.dt_patch.proofs.adding.growth_span.Goals as goal

pub returns-in_err-node-clause-stands : goal.returns-in_err-node-clause-stands
returns-in_err-node-clause-stands c =
    let p = err_from_is_err_and c.from_residual.result c.from_residual.ensures.1 in
    λ tree v. rw (p.1, p.2) (isnt_grown tree.root c.args.path.now c.args.name.now _ (c.in_err-node.ensures tree v))

pub returns-then-not-is_name-clause-stands : goal.returns-then-not-is_name-clause-stands
returns-then-not-is_name-clause-stands c = λ tree v.
    let n = c.in_ok-node.ensures tree v in
    bad_child tree.root n.node c.args.path.now c.args.name.now n.is_path n.there (sym c.is_name.ensures ∙ c.if-not-is_name.true)

pub returns-in_err-check_free-clause-stands : goal.returns-in_err-check_free-clause-stands
returns-in_err-check_free-clause-stands c =
    let p = err_from_is_err_and c.from_residual-in_err-check_free.result c.from_residual-in_err-check_free.ensures.1 in
    λ tree v.
    let n = c.in_ok-node.ensures tree v in
    let f = c.in_err-check_free.ensures n.node n.stands in
    rw (p.1, p.2) (known_child tree.root n.node c.args.path.now c.args.name.now n.is_path n.there (sym c.is_name.ensures ∙ c.if-not-is_name.false) f.1 ∙ ap Some (sym f.0))

pub returns-then-depth_of-ge-MAX_DEPTH-clause-stands : goal.returns-then-depth_of-ge-MAX_DEPTH-clause-stands
returns-then-depth_of-ge-MAX_DEPTH-clause-stands c = λ tree v.
    let n = c.in_ok-node.ensures tree v in
    let d = c.depth_of.ensures in
    let t = c.if-depth_of-ge-MAX_DEPTH.true in
    deep_child tree.root n.node c.args.path.now c.args.name.now n.is_path n.there (sym c.is_name.ensures ∙ c.if-not-is_name.false) (c.in_ok-check_free.ensures n.node n.stands) (omega (arith, d, t))

pub returns-in_err-span-clause-stands : goal.returns-in_err-span-clause-stands
returns-in_err-span-clause-stands c = λ tree v.
    let n = c.in_ok-node.ensures tree v in
    absurd (c.in_err-span.ensures.stands n.node (before_node tree.root (path_names c.args.path.now)) n.stands n.reached)

pub returns-clause-stands : goal.returns-clause-stands
returns-clause-stands c = λ tree v.
    let n = c.in_ok-node.ensures tree v in
    let d = c.depth_of.ensures in
    let t = c.if-depth_of-ge-MAX_DEPTH.false in
    new_child tree.root n.node c.args.path.now c.args.name.now n.is_path n.there (sym c.is_name.ensures ∙ c.if-not-is_name.false) (c.in_ok-check_free.ensures n.node n.stands) (omega (arith, d, t))

pub returns-clause-turns : goal.returns-clause-turns
returns-clause-turns c = λ bytes tree v h.
    let n = c.in_ok-node.ensures tree v in
    let d = c.depth_of.ensures in
    let t = c.if-depth_of-ge-MAX_DEPTH.false in
    node_in c.args.view.now tree c.args.path.now c.args.name.now c.in_ok-node.node c.in_ok-span.span n (c.in_ok-span.ensures.stands n.node (before_node tree.root (path_names c.args.path.now)) n.stands n.reached)
    (sym c.is_name.ensures ∙ c.if-not-is_name.false) (c.in_ok-check_free.ensures n.node n.stands) (omega (arith, d, t)) h.limits
