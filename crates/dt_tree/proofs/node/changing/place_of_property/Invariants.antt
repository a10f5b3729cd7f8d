use Rattle.std.proofs.Common.{◌≡◌, ◌+◌, drop}
use Rattle.std.specs.Option.{option_map}
use Rattle.dt_tree.specs.NodeData.{property_names}
use Rattle.dt_tree.specs.Private.Edits.{place_of}
use Rattle.dt_tree.proofs.node.changing.place_of_property.Given as goal

abbrev pub invariant-loop-at : goal.invariant-loop-at
invariant-loop-at l = option_map (λ j. l.at + j) (place_of (property_names (drop l.at l.properties)) l.name) ≡ place_of (property_names l.properties) l.name
