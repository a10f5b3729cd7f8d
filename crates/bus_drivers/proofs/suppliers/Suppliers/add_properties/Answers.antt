-- A property more, or its fault.
use Rattle.std.proofs.Common.{◌∙◌}
use Rattle.bus_drivers.specs.Nodes.{target_of}
use Rattle.bus_drivers.proofs.SuppliersLemmas.{properties-next}
use Rattle.bus_drivers.proofs.suppliers.Suppliers.add_properties.Goals as goal

pub loop-place-preserved : goal.loop-place-preserved
loop-place-preserved c =
    properties-next (target_of c.args.phandle_index.now) c.loop-place.self c.args.properties.now c.loop-place.place c.index-properties-place.result
    c.loop-place-test.true c.index-properties-place.is c.add_property.new.self c.in_ok-add_property.ensures
    ∙ c.loop-place.invariant
