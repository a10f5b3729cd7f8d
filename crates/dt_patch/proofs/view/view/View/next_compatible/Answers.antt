use Rattle.std.proofs.Common.{refl, sym, ◌∙◌}
use Rattle.dt_patch.specs.View.Order.{from_first, is_compatible}
use Rattle.dt_patch.proofs.ViewLemmas.Orders.{stands_in, behind_none, behind_hit, behind_miss}
use Rattle.dt_patch.proofs.view.view.View.next_compatible.Goals as goal

pub nodes-init : goal.nodes-init
nodes-init c = λ d later s. (d, later, s, refl)

pub returns-in_err-next_node : goal.returns-in_err-next_node
returns-in_err-next_node c = λ d later s. let b = c.nodes.invariant d later s in absurd (c.in_err-next_node.ensures.stands (b.0) (b.1) (b.2))

pub returns-in-None : goal.returns-in-None
returns-in-None c = λ d later s.
    let b = c.nodes.invariant d later s in
    behind_none c.args.self.now c.nodes.at.at (is_compatible c.args.text.now) (from_first (is_compatible c.args.text.now) later) b (rw c.in-None.is at (c.in_ok-next_node.ensures.stands (b.0) (b.1) (b.2)))

pub returns-in_err-is-in-Some : goal.returns-in_err-is-in-Some
returns-in_err-is-in-Some c = λ d later s.
    let b = c.nodes.invariant d later s in
    let n = rw c.in-Some.is at (c.in_ok-next_node.ensures.stands (b.0) (b.1) (b.2)) in
    absurd (c.in_err-is-in-Some.ensures.stands (n.0) (stands_in c.args.self.now c.in-Some.next.at (n.0) (n.1) (n.3)))

pub returns-then-is : goal.returns-then-is
returns-then-is c = λ d later s.
    let b = c.nodes.invariant d later s in
    let n = rw c.in-Some.is at (c.in_ok-next_node.ensures.stands (b.0) (b.1) (b.2)) in
    let told = c.in_ok-is-in-Some.ensures.stands (n.0) (stands_in c.args.self.now c.in-Some.next.at (n.0) (n.1) (n.3)) in
    behind_hit c.args.self.now c.nodes.at.at c.in-Some.next (is_compatible c.args.text.now) (from_first (is_compatible c.args.text.now) later) b n (sym told ∙ c.if-is.true)

pub nodes-preserved : goal.nodes-preserved
nodes-preserved c = λ d later s.
    let b = c.nodes.invariant d later s in
    let n = rw c.in-Some.is at (c.in_ok-next_node.ensures.stands (b.0) (b.1) (b.2)) in
    let told = c.in_ok-is-in-Some.ensures.stands (n.0) (stands_in c.args.self.now c.in-Some.next.at (n.0) (n.1) (n.3)) in
    behind_miss c.args.self.now c.nodes.at.at c.in-Some.next (is_compatible c.args.text.now) (from_first (is_compatible c.args.text.now) later) b n (sym told ∙ c.if-is.false)
