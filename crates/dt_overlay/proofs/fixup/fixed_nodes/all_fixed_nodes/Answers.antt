use Rattle.std.proofs.Common.{◌≡◌, ◌∙◌, ◌<◌, ◌++◌, ◌∷◌, [], length, get_or, slice_index_or, ap, subst, sym, arith}
use Rattle.std.proofs.lemmas.List.{get_or_default, length_push}
use Rattle.dt_live.specs.declared.live_tree.NodeRow.{NodeRow}
use Rattle.dt_live.specs.Rows.{no_row, node_path, row_at}
use Rattle.dt_live.proofs.BlankRows.{blank_row}
use Rattle.dt_overlay.specs.declared.fixup.fixed_nodes.FixedNode.{FixedNode}
use Rattle.dt_overlay.specs.declared.fixup.fixed_nodes.FixedNode.TheVariants.{NotLocal}
use Rattle.dt_overlay.specs.Fixup.Private.FixedNodes.{IsFixedNode}
use Rattle.dt_overlay.proofs.FixupLemmas.FixedNodeLaws.{fixed_nodes-more, fixed_nodes-start}
use Rattle.dt_overlay.proofs.fixup.fixed_nodes.all_fixed_nodes.Goals as goal

pub loop-row-init : goal.loop-row-init
loop-row-init c =
    let is : c.push.new.self.items ≡ NotLocal ∷ [] = c.in_ok-push.ensures.items ∙ ap (λ ts. ts ++ NotLocal ∷ []) c.in_ok-fixed_nodes.ensures.items in
    record { count = ap length is; fixed_nodes = fixed_nodes-start c.args.live.now.nodes.items c.push.new.self.items is }

pub index-requires : goal.index-requires
index-requires c =
    let d = c.args.live.now in
    let rows = d.nodes.items in
    let same : c.nodes-row-items.result.now ≡ rows = c.nodes-row-items.ensures in
    let i = c.loop-row.row-index in
    let within : i < length rows = omega (arith, c.loop-row-test.true, ap length same) in
    let r : NodeRow = get_or c.nodes-row-items.result.now i blank_row in
    let is : r ≡ row_at rows i = ap (λ xs. get_or xs i blank_row) same ∙ get_or_default rows i blank_row no_row within in
    let parent : r.parent ≡ (row_at rows i).parent = ap (λ (x : NodeRow). x.parent) is in
    let above = c.requires.whole.sound.grown i in
    omega (arith, parent, above, c.loop-row.invariant.count)

pub fixed_node_below-fixed_node-requires-clause-known : goal.fixed_node_below-fixed_node-requires-clause-known
fixed_node_below-fixed_node-requires-clause-known c =
    let d = c.args.live.now in
    let rows = d.nodes.items in
    let same : c.nodes-row-items.result.now ≡ rows = c.nodes-row-items.ensures in
    let i = c.loop-row.row-index in
    let within : i < length rows = omega (arith, c.loop-row-test.true, ap length same) in
    let r : NodeRow = get_or c.nodes-row-items.result.now i blank_row in
    let is : r ≡ row_at rows i = ap (λ xs. get_or xs i blank_row) same ∙ get_or_default rows i blank_row no_row within in
    let parent : r.parent ≡ (row_at rows i).parent = ap (λ (x : NodeRow). x.parent) is in
    let above = c.requires.whole.sound.grown i in
    omega (arith, parent, above, within)

pub fixed_node_below-fixed_node-requires-clause-fixed_node : goal.fixed_node_below-fixed_node-requires-clause-fixed_node
fixed_node_below-fixed_node-requires-clause-fixed_node c =
    let d = c.args.live.now in
    let rows = d.nodes.items in
    let same : c.nodes-row-items.result.now ≡ rows = c.nodes-row-items.ensures in
    let i = c.loop-row.row-index in
    let within : i < length rows = omega (arith, c.loop-row-test.true, ap length same) in
    let r : NodeRow = get_or c.nodes-row-items.result.now i blank_row in
    let is : r ≡ row_at rows i = ap (λ xs. get_or xs i blank_row) same ∙ get_or_default rows i blank_row no_row within in
    let parent : r.parent ≡ (row_at rows i).parent = ap (λ (x : NodeRow). x.parent) is in
    let above = c.requires.whole.sound.grown i in
    let ts = c.loop-row.fixed_nodes.items in
    let inside : r.parent < length ts = omega (arith, parent, above, c.loop-row.invariant.count) in
    let item : c.index.result.now ≡ slice_index_or ts r.parent NotLocal = c.index.ensures ∙ get_or_default ts r.parent c.index.result.now NotLocal inside in
    subst (λ (t : FixedNode). IsFixedNode rows (node_path d r.parent) t) (sym item) (c.loop-row.invariant.fixed_nodes r.parent (omega (arith, parent, above)))

pub loop-row-preserved : goal.loop-row-preserved
loop-row-preserved c =
    let d = c.args.live.now in
    let rows = d.nodes.items in
    let same : c.nodes-row-items.result.now ≡ rows = c.nodes-row-items.ensures in
    let i = c.loop-row.row-index in
    let within : i < length rows = omega (arith, c.loop-row-test.true, ap length same) in
    let r : NodeRow = get_or c.nodes-row-items.result.now i blank_row in
    let is : r ≡ row_at rows i = ap (λ xs. get_or xs i blank_row) same ∙ get_or_default rows i blank_row no_row within in
    let ts = c.loop-row.fixed_nodes.items in
    let pushed = c.in_ok-push-2.ensures.items in
    record {
      count = ap length pushed ∙ length_push ts _ ∙ (omega (arith, c.loop-row.invariant.count));
      fixed_nodes = fixed_nodes-more rows c.requires.whole.sound.grown ts i c.fixed_node_below-fixed_node.result r within c.loop-row.invariant.count is c.loop-row.invariant.fixed_nodes c.fixed_node_below-fixed_node.ensures c.push-in-loop-row.new.self.items pushed;
    }
