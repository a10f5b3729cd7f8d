-- The nodes of a tree in preorder, each named by its place among them, from 0, the root's.
use Rattle.std.specs.Prelude.{ℕ, ◌+◌, Bool, false, codes, nat_eq, if◌then◌else◌, List, [], ◌∷◌, ◌++◌, length, Option, Some, None, option_and_then}
use Rattle.std.specs.Option.{option_map, option_map_or}
use Rattle.std.specs.List.{slice_get}
use Rattle.std.proofs.Common.{refl}
use Rattle.std.specs.Coded.{Coded, code_by, coded×, coded_ℕ, coded_option}
use Rattle.dt_tree.specs.NodeCode.{coded_node}
use Rattle.dt_tree.specs.NodeData.{Siblings, none, more, NodeData, node_data}
use Rattle.dt_tree.specs.PathMap.{value_of}
use Rattle.dt_tree.specs.declared.property.Property.{Property}
use Rattle.dt_tree.specs.Phandle.{or_else, phandle_in, phandle_of}

-- a node, and the place of the one above it
pub record PlacedData : Type 0 where
  pub node : NodeData
  pub above : Option ℕ

abbrev pub placed : NodeData → Option ℕ → PlacedData
placed b above = record { node = b; above = above }

-- behind the nodes met so far, these nodes side by side, each before those below it; the place of the one above them is given
abbrev pub with_siblings : Option ℕ → List PlacedData → Siblings → List PlacedData
with_siblings above met none = met
with_siblings above met (more n p kids rest) =
    with_siblings above (with_siblings (Some (length met)) (met ++ placed (node_data n p kids) above ∷ []) kids) rest

-- and a node with all below it
abbrev pub with_tree : Option ℕ → List PlacedData → NodeData → List PlacedData
with_tree above met b = with_siblings (Some (length met)) (met ++ placed b above ∷ []) b.children

-- the nodes of a tree, by its root
abbrev pub tree_nodes : NodeData → List PlacedData
tree_nodes root = with_tree None [] root

-- ---- a node and the one above it
pub record HereData : Type 0 where
  pub node : NodeData
  pub above : Option NodeData

abbrev pub node_at : List PlacedData → ℕ → Option NodeData
node_at nodes place = option_map (λ p. p.node) (slice_get nodes place)

abbrev pub here_of : List PlacedData → PlacedData → HereData
here_of nodes p = record { node = p.node; above = option_and_then (node_at nodes) p.above }

-- the value of a node's property of this name
abbrev pub value_at : List PlacedData → ℕ → List ℕ → Option (List ℕ)
value_at nodes place name = option_and_then (λ b. value_of b.properties name) (node_at nodes place)

-- the place of the node above one
abbrev pub above_at : List PlacedData → ℕ → Option ℕ
above_at nodes place = option_and_then (λ p. p.above) (slice_get nodes place)

-- how the logic stores them
abbrev pub coded_placed : Coded PlacedData
coded_placed = code_by (NodeData × Option ℕ) (coded× coded_node (coded_option coded_ℕ)) (λ p. (p.node, p.above)) (λ p. record { node = p.0; above = p.1 }) (λ _. refl)

abbrev pub coded_here : Coded HereData
coded_here = code_by (NodeData × Option NodeData) (coded× coded_node (coded_option coded_node)) (λ h. (h.node, h.above)) (λ p. record { node = p.0; above = p.1 }) (λ _. refl)

-- ---- phandles
-- a node's own: in `phandle`, else in `linux,phandle`, as trees of before 2012 have it
abbrev pub number_of : List Property → Option ℕ
number_of ps = or_else (phandle_of ps) (option_and_then phandle_in (value_of ps (codes "linux,phandle")))

abbrev pub has_phandle : ℕ → PlacedData → Bool
has_phandle phandle p = option_map_or (nat_eq phandle) (number_of p.node.properties) false

-- the first of these nodes that has a phandle; the first of them has this place
abbrev pub place_from : ℕ → ℕ → List PlacedData → Option ℕ
place_from place phandle [] = None
place_from place phandle (p ∷ ps) = if has_phandle phandle p then Some place else place_from (place + 1) phandle ps

abbrev pub place_with : List PlacedData → ℕ → Option ℕ
place_with nodes phandle = place_from 0 phandle nodes
