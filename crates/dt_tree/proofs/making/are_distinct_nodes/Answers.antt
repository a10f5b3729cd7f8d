use Rattle.std.proofs.Common.{◌≡◌, false, List, arith, refl, ◌∙◌}
use Rattle.std.proofs.lemmas.Grind.{common_steps}
use Rattle.dt_tree.specs.NodeData.{NodeData, siblings, child_names}
use Rattle.dt_tree.specs.Private.Seen.{has_name}
use Rattle.dt_tree.proofs.SeenNames.{names-first, names-next}
use Rattle.dt_tree.proofs.making.are_distinct_nodes.Goals as goal

pub loop-node-init : goal.loop-node-init
loop-node-init c = names-first c.new-seen.result c.new-seen.ensures.empty (child_names (siblings c.args.nodes.now))

pub loop-node-preserved : goal.loop-node-preserved
loop-node-preserved c =
    let fresh : has_name c.loop-node.seen c.node-item.result.name ≡ false = grind (arith, common_steps) in
    names-next (λ (bs : List NodeData). child_names (siblings bs)) (λ b. b.name) (λ b bs. refl) c.loop-node.seen c.note_name.new.seen c.args.nodes.now c.loop-node.node-index c.node-item.result
    (omega arith) c.node-item.is (λ m. rw (← c.name_bytes.ensures) (c.in_ok-note_name.ensures.noted m)) fresh ∙ c.loop-node.invariant
