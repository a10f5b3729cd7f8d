use Rattle.std.proofs.Common.{◌≡◌, ◌+◌, ◌++◌, drop, is_some, Option, ap, sym, ◌∙◌}
use Rattle.dt_tree.specs.NodeData.{NodeData, siblings, child_names, nodes_of}
use Rattle.dt_tree.specs.Sound.{is_among}
use Rattle.dt_tree.proofs.NameMaps.{held-some}
use Rattle.dt_tree.proofs.Places.{child-among}
use Rattle.dtman_blobs.specs.Difference.Private.Orders.{shared_nodes}
use Rattle.dtman_blobs.specs.Difference.Private.Views.{now_of}
use Rattle.dtman_blobs.proofs.DifferenceLemmas.ListedLemmas.{listed-end, unlisted-next}
use Rattle.dtman_blobs.proofs.DifferenceLemmas.OrderLemmas.{name-next}
use Rattle.dtman_blobs.proofs.DifferenceLemmas.SharedLemmas.{nodes-siblings}
use Rattle.dtman_blobs.proofs.difference.ordering.shared_children.Goals as goal
use Rattle.dtman_blobs.proofs.difference.ordering.shared_children.Goals.{then-contains_key+in_ok-push, else-contains_key}

pub loop-node-init : goal.loop-node-init
loop-node-init c =
    ap (λ l. now_of l ++ shared_nodes (child_names c.args.theirs.now.children) c.children-node-items.result.now) c.new-names.ensures.items

pub loop-node-preserved : goal.loop-node-preserved
loop-node-preserved c =
    let ns = child_names c.args.theirs.now.children in
    let ours = c.children-node-items.result.now in
    let passes = λ (b : NodeData). is_among b.name ns in
    let made = λ (b : NodeData). b.name in
    let i = c.loop-node.node-index in
    let x = c.node-item.result in
    let k = c.name_bytes-name.result.now in
    let mark : c.contains_key.result ≡ is_among x.name ns =
    c.contains_key.ensures ∙ held-some c.in_ok-others.others k ∙ ap (λ (o : Option NodeData). is_some o) (c.in_ok-others.ensures k) ∙ child-among (siblings c.children.result.now) k
    ∙ ap (λ f. is_among k (child_names f)) c.children.ensures.nodes ∙ ap (λ m. is_among m ns) c.name_bytes-name.ensures in
    elim c.if-contains_key.branch [
      | then-contains_key+in_ok-push w ↦
          ap (λ v. now_of v.items ++ shared_nodes ns (drop (i + 1) ours)) w.names-is
          ∙ name-next passes made c.loop-node.names.items _ c.name_bytes-name.result ours i x w.in_ok-push.ensures.items c.loop-node-test.true c.node-item.is c.name_bytes-name.ensures
          (sym mark ∙ w.if-contains_key.true)
          ∙ c.loop-node.invariant
      | else-contains_key w ↦
          ap (λ v. now_of v.items ++ shared_nodes ns (drop (i + 1) ours)) w.names-is
          ∙ unlisted-next passes made (now_of c.loop-node.names.items) ours i x c.loop-node-test.true c.node-item.is (sym mark ∙ w.if-contains_key.false)
          ∙ c.loop-node.invariant
    ]

pub returns : goal.returns
returns c =
    let ns = child_names c.args.theirs.now.children in
    let ours = c.children-node-items.result.now in
    sym (listed-end (λ (b : NodeData). is_among b.name ns) (λ (b : NodeData). b.name) (now_of c.loop-node.names.items) ours c.loop-node.node-index c.loop-node-test.false)
    ∙ c.loop-node.invariant
    ∙ ap (shared_nodes ns) (sym (nodes-siblings ours) ∙ ap nodes_of c.children-node-items.ensures.nodes)
