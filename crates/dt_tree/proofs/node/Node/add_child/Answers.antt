use Rattle.std.proofs.Common.{◌≡◌, max, refl, ap, sym, ◌∙◌, arith}
use Rattle.std.proofs.lemmas.Grind.{common_steps}
use Rattle.dt_tree.specs.declared.node.changing.Edit.TheVariants.{AddChild}
use Rattle.dt_tree.specs.NodeData.{NodeData, siblings, child_names, height_of}
use Rattle.dt_tree.specs.NodeView.{node_of}
use Rattle.dt_tree.specs.Sound.{is_among}
use Rattle.dt_tree.proofs.OneNode.{child_at, no_child}
use Rattle.dt_tree.proofs.StillSound.{push_sound, height-push, taken, too_deep, no_fault, starved}
use Rattle.dt_tree.proofs.node.Node.add_child.Goals as goal

pub returns-then-room-eq0-clause-answer : goal.returns-then-room-eq0-clause-answer
returns-then-room-eq0-clause-answer c =
    let absent = (no_child c.args.name c.self.inside.children.items (grind (arith, common_steps))).absent in
    let at = ap (λ (b : NodeData). is_among c.args.name (child_names b.children)) c.self.view_is in
    too_deep c.args.alloc c.args.name c.args.room c.args.self.now (sym at ∙ absent) c.if-room-eq0.true

pub returns-in_err-push_child-in-None-clause-answer : goal.returns-in_err-push_child-in-None-clause-answer
returns-in_err-push_child-in-None-clause-answer c =
    let absent = (no_child c.args.name c.self.inside.children.items (grind (arith, common_steps))).absent in
    let at = ap (λ (b : NodeData). is_among c.args.name (child_names b.children)) c.self.view_is in
    let fine = no_fault c.args.alloc c.args.name c.args.room c.args.self.now (sym at ∙ absent) c.if-room-eq0.false in
    starved _ (AddChild c.args.alloc c.args.name) _ c.from_residual.result refl fine c.from_residual.ensures.0 c.from_residual.ensures.1

pub invariant_of-self-in-None : goal.invariant_of-self-in-None
invariant_of-self-in-None c =
    let absent = (no_child c.args.name c.self.inside.children.items (grind (arith, common_steps))).absent in
    rw c.in_ok-push_child-in-None.ensures.pushed (push_sound (node_of c.self.inside) c.args.name c.check.ensures absent c.self.invariant)

pub returns-in-Some-clause-changed : goal.returns-in-Some-clause-changed
returns-in-Some-clause-changed c = tt

pub returns-in-Some-clause-answer : goal.returns-in-Some-clause-answer
returns-in-Some-clause-answer c =
    let there = (child_at c.args.name c.self.inside.children.items c.in-Some.field-0 (grind (arith, common_steps))).there in
    let at = ap (λ (b : NodeData). is_among c.args.name (child_names b.children)) c.self.view_is in
    taken c.args.alloc c.args.name c.args.room c.args.self.now (sym at ∙ there)

pub returns-in_ok-push_child-in-None-clause-low : goal.returns-in_ok-push_child-in-None-clause-low
returns-in_ok-push_child-in-None-clause-low c =
    let h : height_of (siblings c.push_child.new.children.items) ≡ max (height_of (siblings c.self.inside.children.items)) 1 = ap height_of c.in_ok-push_child-in-None.ensures.pushed ∙ height-push c.args.name (siblings c.self.inside.children.items) in
    let v : height_of (siblings c.self.inside.children.items) ≡ height_of c.args.self.now.children = ap (λ (b : NodeData). height_of b.children) c.self.view_is in
    omega (arith, h, v, c.requires.low, c.if-room-eq0.false)

pub returns-in_ok-push_child-in-None-clause-answer : goal.returns-in_ok-push_child-in-None-clause-answer
returns-in_ok-push_child-in-None-clause-answer c =
    let absent = (no_child c.args.name c.self.inside.children.items (grind (arith, common_steps))).absent in
    let at = ap (λ (b : NodeData). is_among c.args.name (child_names b.children)) c.self.view_is in
    (no_fault c.args.alloc c.args.name c.args.room c.args.self.now (sym at ∙ absent) c.if-room-eq0.false, sym (sym at ∙ absent))
