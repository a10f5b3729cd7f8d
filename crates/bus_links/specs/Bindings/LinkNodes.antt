-- The nodes of a tree in preorder, each named by its place among them, from 0, the root's. Reserved nodes are left out.
use Rattle.std.specs.Prelude.{ℕ, ◌+◌, Bool, false, not, ◌&&◌, ◌==◌, nat_eq, codes, if◌then◌else◌, List, [], ◌∷◌, ◌++◌, length, take, Option, Some, None}
use Rattle.std.specs.Option.{option_map_or}
use Rattle.std.specs.List.{list_any, slice_index_or}
use Rattle.std.specs.Str.{bytes_eq}
use Rattle.dt_tree.specs.declared.property.Property.{Property}
use Rattle.dt_tree.specs.NodeData.{Siblings, none, more, NodeData}
use Rattle.dt_tree.specs.PathMap.{value_of}
use Rattle.dt_tree.specs.Phandle.{phandle_of}
use Rattle.dt_tree.specs.Private.PhandleWalk.{unreserved}
use Rattle.bus_drivers.specs.Nodes.{is_compatible, is_okay}

-- a node: its name, its properties, the node above it (the root's is the root), whether it and each node above it is okay, and the nearest
-- device at or above it, by its place among the devices
pub record LinkNode : Type 0 where
  pub name : List ℕ
  pub properties : List Property
  pub above : ℕ
  pub usable : Bool
  pub device : Option ℕ

-- ---- in preorder
-- the nodes met so far, and how many of them are devices
pub record Met : Type 0 where
  pub nodes : List LinkNode
  pub devices : ℕ

-- what a node says of those below it: its place, whether it is usable, its device
pub record Above : Type 0 where
  pub place : ℕ
  pub usable : Bool
  pub device : Option ℕ

abbrev pub device_here : Above → Met → List Property → Option ℕ
device_here above met p = if is_compatible p then Some met.devices else above.device

abbrev pub here : Above → Met → List Property → Above
here above met p = record { place = length met.nodes; usable = above.usable && is_okay p; device = device_here above met p }

-- a node more
abbrev pub with_node : Above → Met → List ℕ → List Property → Met
with_node above met n p = record {
  nodes = met.nodes ++ record { name = n; properties = p; above = above.place; usable = above.usable && is_okay p; device = device_here above met p } ∷ [];
  devices = met.devices + (if is_compatible p then 1 else 0);
}

-- these nodes side by side more, each before those below it
abbrev pub with_siblings : Above → Met → Siblings → Met
with_siblings above met none = met
with_siblings above met (more n p kids rest) = with_siblings above (with_siblings (here above met p) (with_node above met n p) kids) rest

-- the root, which is no device
abbrev pub root_above : NodeData → Above
root_above root = record { place = 0; usable = is_okay root.properties; device = None }

abbrev pub met_root : NodeData → Met
met_root root = record {
  nodes = record { name = root.name; properties = root.properties; above = 0; usable = is_okay root.properties; device = None } ∷ [];
  devices = 0;
}

-- the nodes of a tree, by its root
abbrev pub tree_nodes : NodeData → List LinkNode
tree_nodes root = (with_siblings (root_above root) (met_root root) (unreserved root.children)).nodes

-- ---- look-ups
-- what stands at no place
abbrev pub nowhere : LinkNode
nowhere = record { name = []; properties = []; above = 0; usable = false; device = None }

abbrev pub node_at : List LinkNode → ℕ → LinkNode
node_at nodes place = slice_index_or nodes place nowhere

-- a node's name is this one
abbrev pub is_named : List LinkNode → ℕ → List ℕ → Bool
is_named nodes place name = bytes_eq (node_at nodes place).name name

-- the value of a node's property of this name
abbrev pub value_at : List LinkNode → ℕ → List ℕ → Option (List ℕ)
value_at nodes place name = value_of (node_at nodes place).properties name

abbrev pub has_phandle : ℕ → LinkNode → Bool
has_phandle phandle node = option_map_or (nat_eq phandle) (phandle_of node.properties) false

-- the first of these nodes that has a phandle; the first of them has this place
abbrev pub place_from : ℕ → ℕ → List LinkNode → Option ℕ
place_from place phandle [] = None
place_from place phandle (node ∷ others) = if has_phandle phandle node then Some place else place_from (place + 1) phandle others

abbrev pub place_with : List LinkNode → ℕ → Option ℕ
place_with nodes phandle = place_from 0 phandle nodes

-- the place, where the node there is a device: any but the root may be one
abbrev pub own_places : ℕ → LinkNode → List ℕ
own_places place node = if not (place == 0) && is_compatible node.properties then place ∷ [] else []

-- the places of the devices among these nodes, the first of which has this place
abbrev pub places_from : ℕ → List LinkNode → List ℕ
places_from place [] = []
places_from place (node ∷ others) = own_places place node ++ places_from (place + 1) others

-- the nodes of the devices, in order
abbrev pub device_places : List LinkNode → List ℕ
device_places nodes = places_from 0 nodes

-- ---- whose tree it is
-- PowerPC's processors are named so (PowerPC processor binding to IEEE 1275-1994, section 6.1: `PowerPC,` and the processor's name)
abbrev pub is_power_core : LinkNode → Bool
is_power_core node = bytes_eq (take 8 node.name) (codes "PowerPC,")

-- the tree of a PowerPC machine
abbrev pub is_power : List LinkNode → Bool
is_power nodes = list_any is_power_core nodes
