use Rattle.std.proofs.Common.{◌≡◌, not, ◌+◌, ◌++◌, drop, is_some, Option, refl, ap, sym, ◌∙◌}
use Rattle.dt_tree.specs.NodeData.{NodeData, siblings, child_names, nodes_of}
use Rattle.dt_tree.specs.Sound.{is_among}
use Rattle.dt_tree.proofs.NameMaps.{held-some}
use Rattle.dt_tree.proofs.Places.{child-among}
use Rattle.dtman_blobs.specs.Difference.Private.Differences.{is_new, node_told, nodes_alone}
use Rattle.dtman_blobs.specs.Difference.Private.Things.{is_first}
use Rattle.dtman_blobs.proofs.DifferenceLemmas.ListedLemmas.{listed-end, listed-next, unlisted-next}
use Rattle.dtman_blobs.proofs.DifferenceLemmas.SharedLemmas.{nodes-siblings}
use Rattle.dtman_blobs.proofs.difference.comparing.add_nodes.Goals as goal
use Rattle.dtman_blobs.proofs.difference.comparing.add_nodes.Goals.{then-not-contains_key+in_ok-tell, else-not-contains_key}

pub loop-node-preserved : goal.loop-node-preserved
loop-node-preserved c =
    let ns = child_names c.args.theirs.now.children in
    let ours = c.children-node-items.result.now in
    let made = node_told (is_first c.args.side) c.args.path.now in
    let i = c.loop-node.node-index in
    let x = c.node-item.result in
    let k = c.name_bytes.result.now in
    let mark : c.contains_key.result ≡ is_among x.name ns =
    c.contains_key.ensures ∙ held-some c.in_ok-others.others k ∙ ap (λ (o : Option NodeData). is_some o) (c.in_ok-others.ensures k) ∙ child-among (siblings c.children.result.now) k
    ∙ ap (λ f. is_among k (child_names f)) c.children.ensures.nodes ∙ ap (λ m. is_among m ns) c.name_bytes.ensures in
    elim c.if-not-contains_key.branch [
      | then-not-contains_key+in_ok-tell w ↦
          ap (λ v. v.items ++ nodes_alone (is_first c.args.side) c.args.path.now (drop (i + 1) ours) ns) w.differences-is
          ∙ ap (λ l. l ++ nodes_alone (is_first c.args.side) c.args.path.now (drop (i + 1) ours) ns) w.in_ok-tell.ensures
          ∙ listed-next (is_new ns) made c.loop-node.differences.items ours i x _ c.loop-node-test.true c.node-item.is refl (ap not (sym mark ∙ w.if-not-contains_key.true))
          ∙ c.loop-node.invariant
      | else-not-contains_key w ↦
          ap (λ v. v.items ++ nodes_alone (is_first c.args.side) c.args.path.now (drop (i + 1) ours) ns) w.differences-is
          ∙ unlisted-next (is_new ns) made c.loop-node.differences.items ours i x c.loop-node-test.true c.node-item.is (ap not (sym mark ∙ w.if-not-contains_key.false))
          ∙ c.loop-node.invariant
    ]

pub returns : goal.returns
returns c =
    let ns = child_names c.args.theirs.now.children in
    let ours = c.children-node-items.result.now in
    sym (listed-end (is_new ns) (node_told (is_first c.args.side) c.args.path.now) c.loop-node.differences.items ours c.loop-node.node-index c.loop-node-test.false)
    ∙ c.loop-node.invariant
    ∙ ap (λ bs. c.args.differences.now.items ++ nodes_alone (is_first c.args.side) c.args.path.now bs ns) (sym (nodes-siblings ours) ∙ ap nodes_of c.children-node-items.ensures.nodes)
