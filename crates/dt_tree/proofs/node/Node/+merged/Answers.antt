use Rattle.std.proofs.Common.{◌≡◌, ◌+◌, List, ◌++◌, map, drop, Option, IfOk, option_copied, ap, sym, ◌∙◌, subst}
use Rattle.std.specs.Option.{option_map_or}
use Rattle.dt_tree.specs.NodeData.{Siblings, NodeData, node_data, siblings, child_names}
use Rattle.dt_tree.specs.PathMap.{child_named}
use Rattle.dt_tree.specs.Private.Merging.{merged_properties, merged_siblings, new_nodes, merged, merged_child}
use Rattle.dt_tree.specs.Sound.{IsSound}
use Rattle.dt_tree.proofs.Collected.{map-next, map-end}
use Rattle.dt_tree.proofs.MergeLaws.{assembled}
use Rattle.dt_tree.proofs.MergedSound.{merged_sound}
use Rattle.dt_tree.proofs.node.Node.+merged.Goals as goal
use Rattle.dt_tree.proofs.node.Node.+merged.Goals.{in-Some, in-None}

pub loop-child-preserved : goal.loop-child-preserved
loop-child-preserved t c =
    let g = c.args.other.now.children in
    let items = c.deref-child-items.result.now in
    let i = c.loop-child.child-index in
    let x = c.child-item.result in
    let theirs : siblings c.as_slice.result.now ≡ g = ap siblings c.as_slice.ensures.value ∙ ap (λ (b : NodeData). b.children) c.other.view_is in
    let has : child_named g x.name ≡ option_copied (option_copied c.get.result) =
    ap (λ (s : Siblings). child_named s x.name) (sym theirs) ∙ ap (child_named (siblings c.as_slice.result.now)) (sym c.name_bytes.ensures) ∙ sym (c.in_ok-theirs.ensures c.name_bytes.result.now) ∙ ap option_copied (sym c.get.ensures.value) in
    let is : IfOk c.match-get.made (λ y. y ≡ merged_child g x) =
    elim c.match-get.branch [
      | in-Some w ↦ subst (λ r. IfOk r (λ y. y ≡ merged_child g x)) (sym w.made-is) (subst (λ (o : Option NodeData). IfOk w.merged-made.result (λ y. y ≡ option_map_or (merged x) o x)) (sym (has ∙ ap (λ r. option_copied (option_copied r)) w.in-Some.is)) w.merged-made.ensures)
      | in-None w ↦ subst (λ r. IfOk r (λ y. y ≡ merged_child g x)) (sym w.made-is) (subst (λ (o : Option NodeData). IfOk w.copy-made.result (λ y. y ≡ option_map_or (merged x) o x)) (sym (has ∙ ap (λ r. option_copied (option_copied r)) w.in-None.is)) w.copy-made.ensures)
    ] in
    let made : c.in_ok-made.field-0 ≡ merged_child g x = subst (λ r. IfOk r (λ y. y ≡ merged_child g x)) c.in_ok-made.was is in
    ap (λ (l : List NodeData). l ++ map (merged_child g) (drop (i + 1) items)) c.in_ok-push.ensures.items
    ∙ map-next (merged_child g) c.loop-child.children.items items i x c.in_ok-made.field-0 c.loop-child-test.true c.child-item.is made
    ∙ c.loop-child.invariant

pub merged_with-requires : goal.merged_with-requires
merged_with-requires t c =
    let self = c.args.self.now in
    let other = c.args.other.now in
    let out = c.loop-child.children.items in
    let g = other.children in
    let items = c.deref-child-items.result.now in
    let kids : siblings c.push_new_nodes.new.merged.items ≡ merged_siblings self.children g =
    assembled c.self.inside.children.items c.other.inside.children.items out c.push_new_nodes.new.merged.items self.children g (ap (λ (b : NodeData). b.children) c.self.view_is) (ap (λ (b : NodeData). b.children) c.other.view_is)
    (sym (map-end (merged_child g) out items c.loop-child.child-index c.loop-child-test.false) ∙ c.loop-child.invariant ∙ ap (λ (l : List NodeData). map (merged_child g) l) c.deref-child-items.ensures.value)
    (c.in_ok-push_new_nodes.ensures ∙ (λ j. out ++ new_nodes (child_names (siblings (c.as_slice-2.ensures.value j))) (c.as_slice-3.ensures.value j))) in
    subst (λ s. IsSound (node_data self.name (merged_properties self.properties other.properties) s)) (sym kids) (merged_sound self other c.check.ensures c.check-2.ensures)

pub returns : goal.returns
returns t c =
    let self = c.args.self.now in
    let other = c.args.other.now in
    let out = c.loop-child.children.items in
    let g = other.children in
    let items = c.deref-child-items.result.now in
    let kids : siblings c.push_new_nodes.new.merged.items ≡ merged_siblings self.children g =
    assembled c.self.inside.children.items c.other.inside.children.items out c.push_new_nodes.new.merged.items self.children g (ap (λ (b : NodeData). b.children) c.self.view_is) (ap (λ (b : NodeData). b.children) c.other.view_is)
    (sym (map-end (merged_child g) out items c.loop-child.child-index c.loop-child-test.false) ∙ c.loop-child.invariant ∙ ap (λ (l : List NodeData). map (merged_child g) l) c.deref-child-items.ensures.value)
    (c.in_ok-push_new_nodes.ensures ∙ (λ j. out ++ new_nodes (child_names (siblings (c.as_slice-2.ensures.value j))) (c.as_slice-3.ensures.value j))) in
    subst (λ s. IfOk c.merged_with.result (λ node. node ≡ node_data self.name (merged_properties self.properties other.properties) s)) kids c.merged_with.ensures
