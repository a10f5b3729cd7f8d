-- The differences of two nodes, in the order in which they are listed: what one of the two has alone, and then those of the children that
-- both have.
use Rattle.std.specs.Prelude.{ℕ, Bool, true, false, not, List, [], ◌∷◌, ◌++◌, Option}
use Rattle.std.specs.Option.{option_map_or}
use Rattle.dt_tree.specs.declared.property.Property.{Property}
use Rattle.dt_tree.specs.NodeData.{Siblings, none, more, NodeData, node_data, nodes_of, child_names}
use Rattle.dt_tree.specs.PathMap.{child_named}
use Rattle.dt_tree.specs.Sound.{is_among}
use Rattle.dtman_blobs.specs.Difference.Named.{NamedNode}
use Rattle.dtman_blobs.specs.Difference.Difference.{DifferenceData, property, node}
use Rattle.dtman_blobs.specs.Difference.Private.Listed.{listed}
use Rattle.dtman_blobs.specs.Difference.Private.Tests.{is_alone}

abbrev pub property_told : Bool → List ℕ → Property → DifferenceData
property_told is_first path p = record { is_first = is_first; path = path; thing = property p }

abbrev pub node_told : Bool → List ℕ → NodeData → DifferenceData
node_told is_first path b = record { is_first = is_first; path = path; thing = node b }

-- the node's name is none of these
abbrev pub is_new : List (List ℕ) → NodeData → Bool
is_new names b = not (is_among b.name names)

abbrev pub properties_alone : Bool → List ℕ → (ℕ → Option NamedNode) → (ℕ → Option NamedNode) → List Property → List Property → List DifferenceData
properties_alone is_first path mine yours ps qs = listed (is_alone mine yours qs) (property_told is_first path) ps

abbrev pub nodes_alone : Bool → List ℕ → List NodeData → List (List ℕ) → List DifferenceData
nodes_alone is_first path bs names = listed (is_new names) (node_told is_first path) bs

abbrev pub own_differences : (ℕ → Option NamedNode) → (ℕ → Option NamedNode) → List ℕ → NodeData → NodeData → List DifferenceData
own_differences first second path a b =
    properties_alone true path first second a.properties b.properties
    ++ (properties_alone false path second first b.properties a.properties
    ++ (nodes_alone true path (nodes_of a.children) (child_names b.children)
    ++ nodes_alone false path (nodes_of b.children) (child_names a.children)))

abbrev pub shared_differences : (ℕ → Option NamedNode) → (ℕ → Option NamedNode) → List ℕ → Siblings → Siblings → List DifferenceData
shared_differences first second path none g = []
shared_differences first second path (more n p kids rest) g =
    option_map_or
    (λ b. own_differences first second (path ++ 47 ∷ n) (node_data n p kids) b ++ shared_differences first second (path ++ 47 ∷ n) kids b.children)
    (child_named g n) []
    ++ shared_differences first second path rest g

-- of the nodes at this path of the two trees
abbrev pub node_differences : (ℕ → Option NamedNode) → (ℕ → Option NamedNode) → List ℕ → NodeData → NodeData → List DifferenceData
node_differences first second path a b = own_differences first second path a b ++ shared_differences first second path a.children b.children
