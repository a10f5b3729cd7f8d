use Rattle.std.proofs.Common.{refl, arith}
use Rattle.dt_tree.specs.NodeData.{property_names}
use Rattle.dt_tree.specs.PathMap.{value_of}
use Rattle.dt_tree.proofs.NameMaps.{held, held-empty, held-insert, IsFinder, read-first, read-step, read-end}
use Rattle.dt_tree.proofs.OneNode.{named_properties}
use Rattle.dtman_blobs.proofs.difference.by_name.values_by_name.Goals as goal

finds : IsFinder (λ p. p.name) (λ p. p.value) value_of
finds = record { nil = λ k. refl; cons = λ p ps k. refl }

pub loop-property-init : goal.loop-property-init
loop-property-init c = read-first property_names (λ p. p.name) named_properties (λ p. p.value) value_of finds (held c.new-values.result) c.args.properties.now (held-empty c.new-values.result c.new-values.ensures.empty) c.requires

pub loop-property-preserved : goal.loop-property-preserved
loop-property-preserved c =
    read-step property_names (λ p. p.name) named_properties (λ p. p.value) value_of finds (held c.loop-property.values) (held c.insert.new.self) c.args.properties.now c.loop-property.property-index c.property-item.result (omega arith) c.property-item.is
    (λ k. held-insert c.loop-property.values c.insert.new.self c.as_bytes.result _ _ c.as_bytes.ensures.value c.in_ok-insert.ensures.updates k) c.loop-property.invariant

pub returns : goal.returns
returns c = read-end property_names (λ p. p.name) named_properties (λ p. p.value) value_of finds (held c.loop-property.values) c.args.properties.now c.loop-property.property-index c.loop-property-test.false c.loop-property.invariant
