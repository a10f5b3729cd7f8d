use Rattle.std.proofs.Common.{◌≡◌, ap, arith}
use Rattle.dt_tree.specs.NodeData.{NodeData, siblings, height_of}
use Rattle.dt_tree.specs.NodeView.{node_of}
use Rattle.dt_tree.specs.Private.Edits.{drop_child}
use Rattle.dt_tree.proofs.StillSound.{put_sound, drop_sound, take_sound, height-drop}
use Rattle.dt_tree.proofs.node.Node.edit_here.Goals as goal

pub invariant_of-self-in-SetProperty : goal.invariant_of-self-in-SetProperty
invariant_of-self-in-SetProperty c = rw c.in_ok-put_property-in-SetProperty.ensures.put (put_sound (node_of c.self.inside) c.in-SetProperty.property c.check.ensures c.self.invariant)

pub invariant_of-self-in-RemoveProperty : goal.invariant_of-self-in-RemoveProperty
invariant_of-self-in-RemoveProperty c = rw c.drop_property.ensures.dropped (drop_sound (node_of c.self-in-RemoveProperty.inside) c.in-RemoveProperty.name.now c.self-in-RemoveProperty.invariant)

pub invariant_of-self-in-RemoveChild : goal.invariant_of-self-in-RemoveChild
invariant_of-self-in-RemoveChild c = rw c.drop_child.ensures.dropped (take_sound (node_of c.self-in-RemoveChild.inside) c.in-RemoveChild.name.now c.self-in-RemoveChild.invariant)

pub returns-in-RemoveChild-clause-low : goal.returns-in-RemoveChild-clause-low
returns-in-RemoveChild-clause-low c =
    let items = c.self-in-RemoveChild.inside.children.items in
    let h : height_of (siblings c.drop_child.new.children.items) ≡ height_of (drop_child c.in-RemoveChild.name.now (siblings items)) = ap height_of c.drop_child.ensures.dropped in
    let v : height_of (siblings items) ≡ height_of c.args.self.now.children = ap (λ (b : NodeData). height_of b.children) c.self-in-RemoveChild.view_is in
    omega (arith, h, v, height-drop c.in-RemoveChild.name.now (siblings items), c.requires.low)
