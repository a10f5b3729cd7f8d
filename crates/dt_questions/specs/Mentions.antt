-- What the properties of the nodes of a tree name, in the order of the nodes, their properties and their entries; what overlays keep in a
-- tree names nothing.
use Rattle.std.specs.Prelude.{ℕ, ◌+◌, if◌then◌else◌, List, [], ◌∷◌, ◌++◌}
use Rattle.std.specs.Option.{option_map_or}
use Rattle.dt_tree.specs.declared.property.Property.{Property}
use Rattle.dt_tree.specs.NodeData.{NodeData}
use Rattle.dt_check.specs.Nodes.{PlacedData}
use Rattle.dt_questions.specs.Entries.{entries}
use Rattle.dt_questions.specs.Mention.{MentionData}
use Rattle.dt_questions.specs.Nodes.{is_hidden}
use Rattle.dt_questions.specs.Shapes.{shape_of}

abbrev pub mentions_by : List PlacedData → ℕ → Property → List MentionData
mentions_by nodes user p = option_map_or (λ shape. entries nodes shape user p.name p.value) (shape_of nodes user p.name) []

abbrev pub mentions_among : List PlacedData → ℕ → List Property → List MentionData
mentions_among nodes user [] = []
mentions_among nodes user (p ∷ ps) = mentions_by nodes user p ++ mentions_among nodes user ps

abbrev pub mentions_of : List PlacedData → ℕ → NodeData → List MentionData
mentions_of nodes user b = if is_hidden nodes user then [] else mentions_among nodes user b.properties

-- those of these nodes, the first of which has this place
abbrev pub mentions_from : List PlacedData → ℕ → List PlacedData → List MentionData
mentions_from nodes user [] = []
mentions_from nodes user (p ∷ ps) = mentions_of nodes user p.node ++ mentions_from nodes (user + 1) ps

abbrev pub mentions : List PlacedData → List MentionData
mentions nodes = mentions_from nodes 0 nodes
