use Rattle.std.proofs.Common.{refl}
use Rattle.std.specs.Prelude.{find}
use Rattle.dt_patch.specs.View.Order.{all_of, has_phandle, in_order}
use Rattle.dt_patch.proofs.ViewLemmas.Orders.{stands_in, seeking_hit, seeking_none, seeking_next, test_as}
use Rattle.dt_patch.proofs.view.view.View.by_phandle.Goals as goal

pub returns-in_err-node : goal.returns-in_err-node
returns-in_err-node c = λ tree v. absurd (c.in_err-node.ensures.stands tree v)

pub nodes-init : goal.nodes-init
nodes-init c = λ tree v. (tree.root, all_of tree.root.children, c.in_ok-node.ensures.first tree v, refl)

pub returns-in_err-own : goal.returns-in_err-own
returns-in_err-own c = λ tree v. let s = c.nodes.invariant tree v in absurd (c.in_err-own.ensures.stands (s.0) (stands_in c.args.self.now c.nodes.node.at (s.0) (s.1) (s.2)))

pub returns-then-is_phandle : goal.returns-then-is_phandle
returns-then-is_phandle c = λ tree v.
    let s = c.nodes.invariant tree v in
    let own = c.in_ok-own.ensures.stands (s.0) (stands_in c.args.self.now c.nodes.node.at (s.0) (s.1) (s.2)) in
    seeking_hit c.args.self.now c.nodes.node (has_phandle c.args.phandle) (find (has_phandle c.args.phandle) (in_order tree.root)) s (test_as c.args.phandle _ _ _ _ own c.is_phandle.ensures c.if-is_phandle.true)

pub returns-in_err-next_node : goal.returns-in_err-next_node
returns-in_err-next_node c = λ tree v. let s = c.nodes.invariant tree v in absurd (c.in_err-next_node.ensures.stands (s.0) (s.1) (s.2))

pub returns-in-None : goal.returns-in-None
returns-in-None c = λ tree v.
    let s = c.nodes.invariant tree v in
    let own = c.in_ok-own.ensures.stands (s.0) (stands_in c.args.self.now c.nodes.node.at (s.0) (s.1) (s.2)) in
    seeking_none c.args.self.now c.nodes.node.at (has_phandle c.args.phandle) (find (has_phandle c.args.phandle) (in_order tree.root)) s (test_as c.args.phandle _ _ _ _ own c.is_phandle.ensures c.if-is_phandle.false) (rw c.in-None.is at (c.in_ok-next_node.ensures.stands (s.0) (s.1) (s.2)))

pub nodes-preserved : goal.nodes-preserved
nodes-preserved c = λ tree v.
    let s = c.nodes.invariant tree v in
    let own = c.in_ok-own.ensures.stands (s.0) (stands_in c.args.self.now c.nodes.node.at (s.0) (s.1) (s.2)) in
    seeking_next c.args.self.now c.nodes.node.at c.in-Some.next (has_phandle c.args.phandle) (find (has_phandle c.args.phandle) (in_order tree.root)) s (test_as c.args.phandle _ _ _ _ own c.is_phandle.ensures c.if-is_phandle.false) (rw c.in-Some.is at (c.in_ok-next_node.ensures.stands (s.0) (s.1) (s.2)))
