use Rattle.std.proofs.Common.{◌≡◌, ◌∙◌, ◌+◌, ◌<◌, ◌≤◌, Ok, length, get_or, slice_index_or, sym, ap, subst, refl, arith}
use Rattle.std.proofs.lemmas.List.{get_or_default}
use Rattle.dt_live.specs.declared.live_tree.LiveTree.{LiveTree}
use Rattle.dt_live.specs.Rows.{node_path, property_at}
use Rattle.dt_live.specs.Flattened.{Lent, lists}
use Rattle.dt_source.specs.OverlayMeaning.Shifted.{Shifting}
use Rattle.dt_overlay.specs.declared.fixup.fixed_nodes.FixedNode.{FixedNode}
use Rattle.dt_overlay.specs.declared.fixup.fixed_nodes.FixedNode.TheVariants.{NotLocal}
use Rattle.dt_overlay.specs.Fixup.OverlayFault.{IsFault}
use Rattle.dt_overlay.specs.Fixup.Private.Steps.{IsAt}
use Rattle.dt_overlay.specs.Fixup.Private.FixedNodes.{AreFixedNodes, IsFixedNode}
use Rattle.dt_overlay.specs.Fixup.Private.Walk.{property_step}
use Rattle.dt_overlay.proofs.FixupLemmas.LocalSteps.{definitions, definitions-all, local-end, local-more, local_step, reached-end, reached-fault, reached-more}
use Rattle.dt_overlay.proofs.fixup.local.raise_local.Goals as goal

pub raise_local_fixup-requires-clause-fixed_node : goal.raise_local_fixup-requires-clause-fixed_node
raise_local_fixup-requires-clause-fixed_node c =
    let d = c.args.patched.now.live in
    let t = c.loop-row.patched in
    let k = c.loop-row.row in
    let same : t.live ≡ d = c.loop-row.invariant.live in
    let below : k < length d.properties.items = omega (arith, c.loop-row-test.true, ap length c.properties-row-end.ensures) in
    let n = (property_at d.properties.items k).node in
    let node : (property_at c.properties.result.now k).node ≡ n = ap (λ xs. (property_at xs k).node) (c.properties.ensures ∙ ap (λ e. e.properties.items) same) in
    let known = c.check.ensures.whole.sound.known k in
    let all = subst (λ (e : LiveTree Lent). AreFixedNodes e c.in_ok-fixed_nodes.fixed_nodes.items) c.live.ensures.tree c.in_ok-fixed_nodes.ensures.fixed_nodes in
    let count = ap (λ (e : LiveTree Lent). length e.nodes.items) c.live.ensures.tree in
    let inside : n < length c.in_ok-fixed_nodes.fixed_nodes.items = omega (arith, known, count, c.in_ok-fixed_nodes.ensures.count) in
    let item : c.index.result.now ≡ slice_index_or c.in_ok-fixed_nodes.fixed_nodes.items n NotLocal =
    c.index.ensures ∙ ap (λ m. get_or c.in_ok-fixed_nodes.fixed_nodes.items m c.index.result.now) node ∙ get_or_default c.in_ok-fixed_nodes.fixed_nodes.items n c.index.result.now NotLocal inside in
    subst (λ (e : LiveTree Lent). IsFixedNode e.nodes.items (node_path e (property_at e.properties.items k).node) c.index.result.now) (sym same)
    (subst (λ (u : FixedNode). IsFixedNode d.nodes.items (node_path d n) u) (sym item) (all n known))

pub index-requires : goal.index-requires
index-requires c =
    let d = c.args.patched.now.live in
    let k = c.loop-row.row in
    let same : c.loop-row.patched.live ≡ d = c.loop-row.invariant.live in
    let node : (property_at c.properties.result.now k).node ≡ (property_at d.properties.items k).node =
    ap (λ xs. (property_at xs k).node) (c.properties.ensures ∙ ap (λ e. e.properties.items) same) in
    let count = ap (λ (e : LiveTree Lent). length e.nodes.items) c.live.ensures.tree in
    omega (arith, node, c.check.ensures.whole.sound.known k, count, c.in_ok-fixed_nodes.ensures.count)

pub raise_local_fixup-requires-clause-known : goal.raise_local_fixup-requires-clause-known
raise_local_fixup-requires-clause-known c =
    omega (arith, c.loop-row-test.true, ap length c.properties-row-end.ensures, ap (λ (e : LiveTree Lent). length e.properties.items) c.loop-row.invariant.live)

pub loop-row-init : goal.loop-row-init
loop-row-init c =
    let d = c.args.patched.now.live in
    record {
      live = refl;
      reached = λ x at. (x, ap (λ es. local_step c.args.shift es x) (definitions-all d c.check.ensures.whole), at);
    }

pub returns-in-Err-clause-step : goal.returns-in-Err-clause-step
returns-in-Err-clause-step c =
    let s = c.args.patched.now in
    let t = c.loop-row.patched in
    let k = c.loop-row.row in
    let same = c.loop-row.invariant.live in
    let below : k < length s.live.properties.items = omega (arith, c.loop-row-test.true, ap length c.properties-row-end.ensures) in
    reached-fault c.in-Err.error (local_step c.args.shift (lists s.live).properties) (local_step c.args.shift (definitions s.live k)) (property_step c.args.shift s.live k)
    (local_step c.args.shift (definitions s.live (k + 1))) s t c.loop-row.invariant.reached
    (local-more c.args.shift s.live k below)
    (λ x at. subst (λ d. IsFault c.in-Err.error (property_step c.args.shift d k x)) same (c.in-Err.ensures.step x at))

pub loop-row-preserved : goal.loop-row-preserved
loop-row-preserved c =
    let s = c.args.patched.now in
    let t = c.loop-row.patched in
    let k = c.loop-row.row in
    let same = c.loop-row.invariant.live in
    let below : k < length s.live.properties.items = omega (arith, c.loop-row-test.true, ap length c.properties-row-end.ensures) in
    record {
      live = c.in_default.ensures.live ∙ same;
      reached =
          reached-more (local_step c.args.shift (lists s.live).properties) (local_step c.args.shift (definitions s.live k)) (property_step c.args.shift s.live k)
          (local_step c.args.shift (definitions s.live (k + 1))) s t c.raise_local_fixup.new.patched c.loop-row.invariant.reached
          (local-more c.args.shift s.live k below)
          (λ x at. subst (λ d. (y : Shifting) × (property_step c.args.shift d k x ≡ Ok y) × IsAt y c.raise_local_fixup.new.patched) same (c.in_default.ensures.step x at));
    }

pub returns-clause-step : goal.returns-clause-step
returns-clause-step c =
    let s = c.args.patched.now in
    let k = c.loop-row.row in
    let past : length s.live.properties.items ≤ k = omega (arith, c.loop-row-test.false, ap length c.properties-row-end.ensures) in
    reached-end (local_step c.args.shift (lists s.live).properties) (local_step c.args.shift (definitions s.live k)) s c.loop-row.patched c.loop-row.invariant.reached
    (local-end c.args.shift s.live k past)
