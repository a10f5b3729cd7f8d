-- How many lists of names, of properties or of children, stand in another order in the one tree than in the other: of each node that both
-- have, what both have in it.
use Rattle.std.specs.Prelude.{ℕ, ◌+◌, Bool, not, ◌&&◌, if◌then◌else◌, List, is_some}
use Rattle.std.specs.Cmp.Lexicographic.{pointwise}
use Rattle.std.specs.Option.{option_map_or}
use Rattle.std.specs.Str.{bytes_eq}
use Rattle.dt_tree.specs.declared.property.Property.{Property}
use Rattle.dt_tree.specs.NodeData.{Siblings, none, more, NodeData, node_data, nodes_of, child_names}
use Rattle.dt_tree.specs.PathMap.{child_named, value_of}
use Rattle.dt_tree.specs.Sound.{is_among}
use Rattle.dtman_blobs.specs.Difference.SameBoard.{is_own_phandle}
use Rattle.dtman_blobs.specs.Difference.Private.Listed.{listed}

-- the property counts, and is among the others by its name
abbrev pub is_shared : List Property → Property → Bool
is_shared qs p = not (is_own_phandle p.name) && is_some (value_of qs p.name)

abbrev pub shared_properties : List Property → List Property → List (List ℕ)
shared_properties qs ps = listed (is_shared qs) (λ p. p.name) ps

abbrev pub shared_nodes : List (List ℕ) → List NodeData → List (List ℕ)
shared_nodes names bs = listed (λ b. is_among b.name names) (λ b. b.name) bs

abbrev pub moves : List (List ℕ) → List (List ℕ) → ℕ
moves names others = if pointwise bytes_eq names others then 0 else 1

abbrev pub own_moves : NodeData → NodeData → ℕ
own_moves a b =
    moves (shared_properties b.properties a.properties) (shared_properties a.properties b.properties)
    + moves (shared_nodes (child_names b.children) (nodes_of a.children)) (shared_nodes (child_names a.children) (nodes_of b.children))

abbrev pub moves_below : Siblings → Siblings → ℕ
moves_below none g = 0
moves_below (more n p kids rest) g =
    option_map_or (λ b. own_moves (node_data n p kids) b + moves_below kids b.children) (child_named g n) 0 + moves_below rest g

abbrev pub node_moves : NodeData → NodeData → ℕ
node_moves a b = own_moves a b + moves_below a.children b.children
