use Rattle.std.proofs.Common.{◌≡◌, map, take}
use Rattle.dt_build.proofs.places.property_places.Given as goal

abbrev pub invariant-loop-property : goal.invariant-loop-property
invariant-loop-property l = l.places.items ≡ map (λ x. x.value.now.at) (take l.property-index l.properties)
