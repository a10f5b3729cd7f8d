use Rattle.std.proofs.Common.{◌≡◌, not, List, ◌+◌, ◌++◌, drop, is_some, Option, refl, ap, sym, ◌∙◌, append-nil}
use Rattle.std.proofs.lemmas.List.{at_drop_all}
use Rattle.dt_tree.specs.NodeData.{NodeData, siblings, child_names}
use Rattle.dt_tree.specs.Private.Merging.{new_nodes}
use Rattle.dt_tree.specs.Sound.{is_among}
use Rattle.dt_tree.proofs.Collected.{kept-next, left-next}
use Rattle.dt_tree.proofs.NameMaps.{held-some}
use Rattle.dt_tree.proofs.Places.{child-among}
use Rattle.dt_tree.proofs.node.merging.push_new_nodes.Goals as goal
use Rattle.dt_tree.proofs.node.merging.push_new_nodes.Goals.{then-not-contains_key+in_ok-push_copy, else-not-contains_key}

pub loop-node-preserved : goal.loop-node-preserved
loop-node-preserved c =
    let ns = child_names (siblings c.args.ours.now) in
    let theirs = c.args.theirs.now in
    let i = c.loop-node.node-index in
    let x = c.node-item.result in
    let k = c.name_bytes.result.now in
    let is_new : NodeData → _ = λ b. not (is_among b.name ns) in
    let mark : c.contains_key.result ≡ is_among x.name ns =
    c.contains_key.ensures ∙ held-some c.in_ok-ours.ours k ∙ ap (λ (o : Option NodeData). is_some o) (c.in_ok-ours.ensures k) ∙ child-among (siblings c.args.ours.now) k ∙ ap (λ m. is_among m ns) c.name_bytes.ensures in
    elim c.if-not-contains_key.branch [
      | then-not-contains_key+in_ok-push_copy w ↦
          ap (λ v. v.items ++ new_nodes ns (drop (i + 1) theirs)) w.merged-is
          ∙ ap (λ (l : List NodeData). l ++ new_nodes ns (drop (i + 1) theirs)) w.in_ok-push_copy.ensures
          ∙ kept-next is_new c.loop-node.merged.items theirs i x _ c.loop-node-test.true c.node-item.is refl (ap not (sym mark ∙ w.if-not-contains_key.true))
          ∙ c.loop-node.invariant
      | else-not-contains_key w ↦
          ap (λ v. v.items ++ new_nodes ns (drop (i + 1) theirs)) w.merged-is
          ∙ left-next is_new c.loop-node.merged.items theirs i x c.loop-node-test.true c.node-item.is (ap not (sym mark ∙ w.if-not-contains_key.false))
          ∙ c.loop-node.invariant
    ]

pub returns : goal.returns
returns c =
    let out = c.loop-node.merged.items in
    sym (at_drop_all (λ (l : List NodeData). out ++ new_nodes (child_names (siblings c.args.ours.now)) l) c.args.theirs.now c.loop-node.node-index c.loop-node-test.false ∙ append-nil out) ∙ c.loop-node.invariant
