use Rattle.std.proofs.Common.{◌≡◌, false, arith, refl, ◌∙◌}
use Rattle.std.proofs.lemmas.Grind.{common_steps}
use Rattle.dt_tree.specs.NodeData.{property_names}
use Rattle.dt_tree.specs.Private.Seen.{has_name}
use Rattle.dt_tree.proofs.SeenNames.{names-first, names-next}
use Rattle.dt_tree.proofs.making.are_distinct_properties.Goals as goal

pub loop-property-init : goal.loop-property-init
loop-property-init c = names-first c.new-seen.result c.new-seen.ensures.empty (property_names c.args.properties.now)

pub loop-property-preserved : goal.loop-property-preserved
loop-property-preserved c =
    let fresh : has_name c.loop-property.seen c.property-item.result.name ≡ false = grind (arith, common_steps) in
    names-next property_names (λ p. p.name) (λ p ps. refl) c.loop-property.seen c.note_name.new.seen c.args.properties.now c.loop-property.property-index c.property-item.result
    (omega arith) c.property-item.is (λ m. rw (← c.as_bytes.ensures.value) (c.in_ok-note_name.ensures.noted m)) fresh ∙ c.loop-property.invariant
