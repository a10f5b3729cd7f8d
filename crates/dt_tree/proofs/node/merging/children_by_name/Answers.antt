use Rattle.std.proofs.Common.{refl, arith}
use Rattle.dt_tree.proofs.NameMaps.{held, held-empty, held-insert, IsFinder, read-first, read-step, read-end}
use Rattle.dt_tree.proofs.OneNode.{names_of, named_children, child_in}
use Rattle.dt_tree.proofs.node.merging.children_by_name.Goals as goal

finds : IsFinder (λ b. b.name) (λ b. b) child_in
finds = record { nil = λ k. refl; cons = λ b bs k. refl }

pub loop-child-init : goal.loop-child-init
loop-child-init c = read-first names_of (λ b. b.name) named_children (λ b. b) child_in finds (held c.new-nodes.result) c.args.children.now (held-empty c.new-nodes.result c.new-nodes.ensures.empty) c.requires

pub loop-child-preserved : goal.loop-child-preserved
loop-child-preserved c =
    read-step names_of (λ b. b.name) named_children (λ b. b) child_in finds (held c.loop-child.nodes) (held c.insert.new.self) c.args.children.now c.loop-child.child-index c.child-item.result (omega arith) c.child-item.is
    (λ k. held-insert c.loop-child.nodes c.insert.new.self c.name_bytes.result _ _ c.name_bytes.ensures c.in_ok-insert.ensures.updates k) c.loop-child.invariant

pub returns : goal.returns
returns c = read-end names_of (λ b. b.name) named_children (λ b. b) child_in finds (held c.loop-child.nodes) c.args.children.now c.loop-child.child-index c.loop-child-test.false c.loop-child.invariant
