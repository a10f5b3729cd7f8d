use Rattle.std.proofs.Common.{◌≡◌, ◌≤◌, ◌<◌, ◌-◌, ◌^◌, ◌∙◌, List, ℕ, Option, drop, min, ap, arith, get_or, length, subst, sym}
use Rattle.std.specs.Prelude.{All}
use Rattle.dt_source.specs.declared.tree.Part.{Part}
use Rattle.dt_source.specs.TreeMeaning.Fixups.{value_bytes}
use Rattle.dt_live.specs.declared.preorder.properties.NodeProperty.{NodeProperty}
use Rattle.dt_live.specs.Rows.{node_path}
use Rattle.dt_live.specs.Builder.Sizes.{size_in}
use Rattle.dt_build.specs.Edit.Said.{Parts}
use Rattle.dt_build.specs.Resolve.Targets.{IsKnown}
use Rattle.dt_build.specs.Private.Made.{all_phandles, plain_properties}
use Rattle.dt_build.specs.Private.Values.{all_uses, founds_of}
use Rattle.dt_build.proofs.SourceOrder.{source-bytes}
use Rattle.dt_build.proofs.SourceSteps.{all-drop, made, sizes-all, sizes-more}
use Rattle.dt_build.proofs.source_values.values_size.Goals as goal

pub loop-node_property-init : goal.loop-node_property-init
loop-node_property-init c =
    let p = c.args.draft.now in
    let all = c.as_slice-left.ensures.value in
    let same : size_in (made (all_phandles p) (node_path p.live) p.in_preorder.properties.items c.as_slice-left.result.now) ≡ size_in (plain_properties p) =
    ap (λ (ts : List (Option ℕ)). size_in (made (all_phandles p) (node_path p.live) p.in_preorder.properties.items ts)) all ∙ ap size_in (source-bytes p c.requires) in
    record { known = subst (All (IsKnown p.live)) (sym all) c.requires.targets_known; fits = omega arith; size = omega (arith, same) }

pub loop-node_property-preserved : goal.loop-node_property-preserved
loop-node_property-preserved c =
    let p = c.args.draft.now in
    let x = c.node_property-item.result in
    let i = c.loop-node_property.node_property-index in
    let old = c.loop-node_property.left.now in
    let new = c.targets_behind-left.result.now in
    let parts = c.as_slice-parts.ensures.value in
    let step = c.targets_behind-left.ensures ∙ ap (λ (ps : List Part). drop (all_uses ps) old) parts in
    let same = c.as_slice-node_property-items.ensures.value in
    let below : i < length p.in_preorder.properties.items = omega (arith, c.loop-node_property-test.true, ap length same) in
    record {
      known = all-drop (IsKnown p.live) (all_uses x.value.now.parts.items) old new step c.loop-node_property.invariant.known;
      fits = omega (arith, c.saturating_add-size.ensures);
      size = sizes-more (all_phandles p) (node_path p.live) p.in_preorder.properties.items i x old new below (c.node_property-item.is ∙ ap (λ (ys : List (NodeProperty Parts)). get_or ys i x) same) step
          c.loop-node_property.size c.value_size.result c.saturating_add-size.result _ (c.value_size.ensures ∙ ap (λ (ps : List Part). min (length (value_bytes (all_phandles p) (founds_of (node_path p.live) ps old))) (2 ^ 64 - 1)) parts) c.saturating_add-size.ensures c.loop-node_property.invariant.size;
    }

pub returns : goal.returns
returns c =
    let p = c.args.draft.now in
    let i = c.loop-node_property.node_property-index in
    let over : length p.in_preorder.properties.items ≤ i = omega (arith, c.loop-node_property-test.false, ap length c.as_slice-node_property-items.ensures.value) in
    sizes-all (all_phandles p) (node_path p.live) p.in_preorder.properties.items i c.loop-node_property.size _ c.loop-node_property.left.now over c.loop-node_property.invariant.fits c.loop-node_property.invariant.size
