use Rattle.std.proofs.Common.{◌+◌, drop, sym, ap, ◌∙◌}
use Rattle.dt_source.specs.TreeMeaning.Edits.{with_property}
use Rattle.dt_live.specs.Rows.{path_of, node_path, state_of}
use Rattle.dt_live.specs.Private.Flattening.{with_values}
use Rattle.dt_live.proofs.Steps.{values-left, property-more}
use Rattle.dt_live.proofs.flattening.flatten_properties.Goals as goal

pub loop-property-preserved : goal.loop-property-preserved
loop-property-preserved c =
    let i = c.loop-property.invariant in
    let e = c.in_ok-set_property.ensures in
    let x = c.property-item.result in
    let ps = c.args.properties.now in
    let at = c.loop-property.property-index in
    let before = c.loop-property.live in
    let p = node_path c.args.live.now c.args.node in
    let state = e.state
    ∙ ap (λ rows. with_property (path_of rows c.args.node) c.as_bytes-name.result.now c.as_slice.result (state_of before)) i.kept
    ∙ ap (λ n. with_property p n c.as_slice.result (state_of before)) c.as_bytes-name.ensures.value in
    record {
      sound = e.sound;
      kept = e.kept ∙ i.kept;
      rows = λ all. e.rows (i.rows all);
      labels = ap (λ s. s.labels) e.state ∙ i.labels;
      rest =
          ap (with_values p (drop (at + 1) ps)) (property-more before c.set_property.new.self p x c.as_slice.result c.as_slice.ensures state)
          ∙ sym (values-left p ps at x _ c.loop-property-test.true c.property-item.is)
          ∙ i.rest;
    }
