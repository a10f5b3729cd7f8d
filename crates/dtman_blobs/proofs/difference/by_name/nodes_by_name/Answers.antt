use Rattle.std.proofs.Common.{refl, arith}
use Rattle.dt_tree.proofs.NameMaps.{held, held-empty, held-insert, IsFinder, read-first, read-step, read-end}
use Rattle.dt_tree.proofs.OneNode.{names_of, named_children, child_in}
use Rattle.dtman_blobs.proofs.difference.by_name.nodes_by_name.Goals as goal

finds : IsFinder (λ b. b.name) (λ b. b) child_in
finds = record { nil = λ k. refl; cons = λ b bs k. refl }

pub loop-node-init : goal.loop-node-init
loop-node-init c = read-first names_of (λ b. b.name) named_children (λ b. b) child_in finds (held c.new-found.result) c.args.nodes.now (held-empty c.new-found.result c.new-found.ensures.empty) c.requires

pub loop-node-preserved : goal.loop-node-preserved
loop-node-preserved c =
    read-step names_of (λ b. b.name) named_children (λ b. b) child_in finds (held c.loop-node.found) (held c.insert.new.self) c.args.nodes.now c.loop-node.node-index c.node-item.result (omega arith) c.node-item.is
    (λ k. held-insert c.loop-node.found c.insert.new.self c.name_bytes.result _ _ c.name_bytes.ensures c.in_ok-insert.ensures.updates k) c.loop-node.invariant

pub returns : goal.returns
returns c = read-end names_of (λ b. b.name) named_children (λ b. b) child_in finds (held c.loop-node.found) c.args.nodes.now c.loop-node.node-index c.loop-node-test.false c.loop-node.invariant
