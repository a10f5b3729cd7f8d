use Rattle.std.proofs.Common.{◌≡◌, true, slice_index_or, sym, ap, ◌∙◌, arith}
use Rattle.std.specs.List.{list_any}
use Rattle.dt_live.specs.Rows.{node_path, property_at}
use Rattle.dt_live.specs.Flattened.{lists}
use Rattle.dt_source.specs.OverlayMeaning.Applied.{clashes}
use Rattle.dt_overlay.proofs.PartLists.{values-start, values-end, values_left}
use Rattle.dt_overlay.proofs.PartValues.{clash-step, first-last, known-node}
use Rattle.dt_overlay.proofs.part.find_clash.Goals as goal

pub loop-at-init : goal.loop-at-init
loop-at-init c =
    let d = c.args.live.now in
    let p = c.args.part in
    let t = node_path d (slice_index_or c.args.base_nodes.now p.body 0) in
    record {
      low = omega arith;
      high = first-last c.args.patched.now.live p c.requires.part;
      rest = ap (list_any (clashes (lists d).properties)) (sym (values-start c.args.patched.now c.check.ensures p c.requires.part t));
    }

pub bounds-base_nodes-row : goal.bounds-base_nodes-row
bounds-base_nodes-row c =
    let d = c.args.live.now in
    let p = c.args.part in
    let s = c.args.patched.now in
    let at = c.loop-at.at in
    let t = node_path d (slice_index_or c.args.base_nodes.now p.body 0) in
    let row = ap (λ rs. property_at rs at) c.properties-rows.ensures in
    let known = known-node s c.check.ensures p c.requires.part t d c.args.base_nodes.now c.requires.base_nodes at c.loop-at.invariant.low c.loop-at-test.true (property_at c.properties-rows.result.now at) row in
    omega (arith, known, c.requires.room)

pub returns-then-is_clash : goal.returns-then-is_clash
returns-then-is_clash c =
    let d = c.args.live.now in
    let p = c.args.part in
    let s = c.args.patched.now in
    let at = c.loop-at.at in
    let t = node_path d (slice_index_or c.args.base_nodes.now p.body 0) in
    let row = ap (λ rs. property_at rs at) c.properties-rows.ensures in
    sym (clash-step s c.check.ensures p c.requires.part t d c.args.base_nodes.now c.requires.base_nodes at c.loop-at.invariant.low c.loop-at-test.true (property_at c.properties-rows.result.now at) row
    (lists d).properties true (sym c.if-is_clash.true ∙ c.is_clash.ensures))
    ∙ c.loop-at.invariant.rest

pub loop-at-preserved : goal.loop-at-preserved
loop-at-preserved c =
    let d = c.args.live.now in
    let p = c.args.part in
    let s = c.args.patched.now in
    let at = c.loop-at.at in
    let t = node_path d (slice_index_or c.args.base_nodes.now p.body 0) in
    let row = ap (λ rs. property_at rs at) c.properties-rows.ensures in
    record {
      low = omega (arith, c.loop-at.invariant.low);
      high = omega (arith, c.loop-at-test.true);
      rest = sym (clash-step s c.check.ensures p c.requires.part t d c.args.base_nodes.now c.requires.base_nodes at c.loop-at.invariant.low c.loop-at-test.true (property_at c.properties-rows.result.now at) row
          (lists d).properties _ (sym c.if-is_clash.false ∙ c.is_clash.ensures))
          ∙ c.loop-at.invariant.rest;
    }

pub returns : goal.returns
returns c =
    let d = c.args.live.now in
    let p = c.args.part in
    let s = c.args.patched.now in
    let at = c.loop-at.at in
    let t = node_path d (slice_index_or c.args.base_nodes.now p.body 0) in
    let end : at ≡ p.last = omega (arith, c.loop-at.invariant.high, c.loop-at-test.false) in
    let none = values-end s c.check.ensures p c.requires.part t in
    ap (list_any (clashes (lists d).properties)) (sym none ∙ ap (values_left s p.body t) (sym end)) ∙ c.loop-at.invariant.rest

pub offset_bounds-base_nodes-row : goal.offset_bounds-base_nodes-row
offset_bounds-base_nodes-row c =
    let d = c.args.live.now in
    let p = c.args.part in
    let s = c.args.patched.now in
    let at = c.loop-at.at in
    let t = node_path d (slice_index_or c.args.base_nodes.now p.body 0) in
    let row = ap (λ rs. property_at rs at) c.properties-rows.ensures in
    let known = known-node s c.check.ensures p c.requires.part t d c.args.base_nodes.now c.requires.base_nodes at c.loop-at.invariant.low c.loop-at-test.true (property_at c.properties-rows.result.now at) row in
    omega (arith, known, c.requires.room)
