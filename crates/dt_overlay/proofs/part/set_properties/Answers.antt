use Rattle.std.proofs.Common.{◌≡◌, slice_index_or, refl, sym, ap, ◌∙◌, arith}
use Rattle.dt_live.specs.Rows.{node_path, property_at}
use Rattle.dt_live.specs.Flattened.{lists}
use Rattle.dt_source.specs.OverlayMeaning.Applied.{with_values}
use Rattle.dt_overlay.proofs.PartLists.{values-start, values-end, values_left}
use Rattle.dt_overlay.proofs.PartValues.{first-last, known-node, put-step}
use Rattle.dt_overlay.proofs.part.set_properties.Goals as goal

pub loop-at-init : goal.loop-at-init
loop-at-init c =
    let d = c.args.live.now in
    let p = c.args.part in
    let t = node_path d (slice_index_or c.args.base_nodes.now p.body 0) in
    record {
      low = omega arith;
      high = first-last c.args.patched.now.live p c.requires.part;
      sound = c.requires.sound;
      kept = refl;
      rows = λ all. all;
      labels = refl;
      rest = ap (λ xs. with_values xs (lists d).properties) (sym (values-start c.args.patched.now c.check.ensures p c.requires.part t));
    }

pub bounds-base_nodes-row : goal.bounds-base_nodes-row
bounds-base_nodes-row c =
    let d = c.args.live.now in
    let p = c.args.part in
    let s = c.args.patched.now in
    let at = c.loop-at.at in
    let t = node_path d (slice_index_or c.args.base_nodes.now p.body 0) in
    let row = ap (λ rs. property_at rs at) c.properties-rows.ensures in
    let known = known-node s c.check.ensures p c.requires.part t d c.args.base_nodes.now c.requires.base_nodes at c.loop-at.invariant.low c.loop-at-test.true (property_at c.properties-rows.result.now at) row in
    omega (arith, known, c.requires.room)

pub loop-at-preserved : goal.loop-at-preserved
loop-at-preserved c =
    let i = c.loop-at.invariant in
    let d = c.args.live.now in
    let p = c.args.part in
    let s = c.args.patched.now in
    let at = c.loop-at.at in
    let t = node_path d (slice_index_or c.args.base_nodes.now p.body 0) in
    let row = ap (λ rs. property_at rs at) c.properties-rows.ensures in
    let e = c.in_ok-set_property.ensures in
    record {
      low = omega (arith, i.low);
      high = omega (arith, c.loop-at-test.true);
      sound = e.sound;
      kept = e.kept ∙ i.kept;
      rows = λ all. e.rows (i.rows all);
      labels = ap (λ x. x.labels) e.state ∙ i.labels;
      rest = put-step s c.check.ensures p c.requires.part t d c.args.base_nodes.now c.requires.base_nodes at i.low c.loop-at-test.true (property_at c.properties-rows.result.now at) row
          c.loop-at.live c.set_property.new.self c.value.result i.kept c.value.ensures e.state
          ∙ i.rest;
    }

pub returns-clause-properties : goal.returns-clause-properties
returns-clause-properties c =
    let i = c.loop-at.invariant in
    let d = c.args.live.now in
    let p = c.args.part in
    let s = c.args.patched.now in
    let t = node_path d (slice_index_or c.args.base_nodes.now p.body 0) in
    let end : c.loop-at.at ≡ p.last = omega (arith, i.high, c.loop-at-test.false) in
    let none = values-end s c.check.ensures p c.requires.part t in
    ap (λ xs. with_values xs (lists c.loop-at.live).properties) (sym none ∙ ap (values_left s p.body t) (sym end)) ∙ i.rest

pub offset_bounds-base_nodes-row : goal.offset_bounds-base_nodes-row
offset_bounds-base_nodes-row c =
    let d = c.args.live.now in
    let p = c.args.part in
    let s = c.args.patched.now in
    let at = c.loop-at.at in
    let t = node_path d (slice_index_or c.args.base_nodes.now p.body 0) in
    let row = ap (λ rs. property_at rs at) c.properties-rows.ensures in
    let known = known-node s c.check.ensures p c.requires.part t d c.args.base_nodes.now c.requires.base_nodes at c.loop-at.invariant.low c.loop-at-test.true (property_at c.properties-rows.result.now at) row in
    omega (arith, known, c.requires.room)
