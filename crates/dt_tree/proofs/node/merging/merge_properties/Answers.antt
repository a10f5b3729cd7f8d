use Rattle.std.proofs.Common.{◌≡◌, ◌+◌, List, ◌++◌, map, drop, unwrap_or, ap, ◌∙◌}
use Rattle.dt_tree.specs.declared.property.Property.{Property}
use Rattle.dt_tree.specs.PathMap.{value_of}
use Rattle.dt_tree.specs.Private.Merging.{property_of, with_value}
use Rattle.dt_tree.proofs.Collected.{map-next}
use Rattle.dt_tree.proofs.node.merging.merge_properties.Goals as goal

pub loop-property-preserved : goal.loop-property-preserved
loop-property-preserved c =
    let ours = c.args.ours.now in
    let theirs = c.args.theirs.now in
    let i = c.loop-property.property-index in
    let x = c.property-item.result in
    let value : c.merged_value.result.now ≡ unwrap_or (value_of theirs x.name) x.value = c.merged_value.ensures ∙ ap (λ o. unwrap_or o x.value) (c.in_ok-values.ensures x.name) in
    ap (λ (l : List Property). l ++ map (with_value theirs) (drop (i + 1) ours)) c.in_ok-push_property.ensures
    ∙ map-next (with_value theirs) c.loop-property.merged.items ours i x _ c.loop-property-test.true c.property-item.is (ap (property_of x.name) value)
    ∙ c.loop-property.invariant
