-- The devices of a tree: the nodes with `compatible` (Devicetree Specification v0.4, section 2.3.1), whether they may be used
-- (section 2.3.4), and the device that a node belongs to. A path is the names from below the root down to a node.
use Rattle.std.specs.Prelude.{ℕ, Bool, true, false, not, ◌&&◌, ◌||◌, ◌==◌, nat_eq, codes, if◌then◌else◌, List, [], ◌∷◌, ◌++◌, map, filter, length, Option, Some, None, is_some, unwrap_or, option_and_then}
use Rattle.std.specs.Option.{option_map, option_map_or}
use Rattle.std.specs.List.{list_all, find, position}
use Rattle.std.specs.Str.{bytes_eq}
use Rattle.dt_tree.specs.declared.property.Property.{Property}
use Rattle.dt_tree.specs.NodeData.{NodeData}
use Rattle.dt_tree.specs.Path.{path_text}
use Rattle.dt_tree.specs.PathMap.{path_map, properties_at, value_of}
use Rattle.dt_tree.specs.Phandle.{is_reserved, phandle_at, or_else}
use Rattle.dt_tree.specs.Preorder.{preorder}

-- the properties of the node at a path
abbrev pub properties_of : NodeData → List (List ℕ) → List Property
properties_of root node_path = unwrap_or (properties_at root node_path) []

-- the paths of the nodes from the root down to a node, the root's first and the node's own last
abbrev pub node_paths_down : List (List ℕ) → List (List (List ℕ))
node_paths_down [] = [] ∷ []
node_paths_down (n ∷ ns) = [] ∷ map (λ node_path. n ∷ node_path) (node_paths_down ns)

-- ---- devices
-- with `compatible`
abbrev pub is_compatible : List Property → Bool
is_compatible ps = is_some (value_of ps (codes "compatible"))

-- a node below the root, not reserved, with `compatible`
abbrev pub is_device : NodeData → List (List ℕ) → Bool
is_device root node_path = not (length node_path == 0) && not (is_reserved node_path) && is_compatible (properties_of root node_path)

-- the paths of the devices, in preorder
abbrev pub device_nodes : NodeData → List (List (List ℕ))
device_nodes root = filter (is_device root) (preorder root)

-- `okay` or `ok`, with one zero byte
abbrev pub is_okay_value : List ℕ → Bool
is_okay_value value = bytes_eq value (codes "okay" ++ 0 ∷ []) || bytes_eq value (codes "ok" ++ 0 ∷ [])

-- without `status`, or with one that is okay
abbrev pub is_okay : List Property → Bool
is_okay ps = option_map_or is_okay_value (value_of ps (codes "status")) true

-- a node may be used where it and each node above it is okay
abbrev pub is_usable : NodeData → List (List ℕ) → Bool
is_usable root node_path = list_all (λ above. is_okay (properties_of root above)) (node_paths_down node_path)

-- a device as it stands in its tree
pub record TreeDevice : Type 0 where
  pub path : List ℕ
  pub available : Bool
  pub properties : List Property

abbrev pub tree_device : NodeData → List (List ℕ) → TreeDevice
tree_device root node_path = record { path = path_text node_path; available = is_usable root node_path; properties = properties_of root node_path }

-- the devices of a tree, in preorder
abbrev pub tree_devices : NodeData → List TreeDevice
tree_devices root = map (tree_device root) (device_nodes root)

-- ---- what a phandle leads to
-- two paths are one
abbrev pub node_paths_eq : List (List ℕ) → List (List ℕ) → Bool
node_paths_eq [] [] = true
node_paths_eq (n ∷ ns) [] = false
node_paths_eq [] (m ∷ ms) = false
node_paths_eq (n ∷ ns) (m ∷ ms) = bytes_eq n m && node_paths_eq ns ms

-- the last of these paths that is a device's
abbrev pub last_device : NodeData → List (List (List ℕ)) → Option (List (List ℕ))
last_device root [] = None
last_device root (node_path ∷ more) = or_else (last_device root more) (if is_device root node_path then Some node_path else None)

-- the nearest device at or above a node, as its place among the devices
abbrev pub nearest_device : NodeData → List (List ℕ) → Option ℕ
nearest_device root node_path = option_and_then (λ d. position (node_paths_eq d) (device_nodes root)) (last_device root (node_paths_down node_path))

-- the path of the first node in preorder that has a phandle
abbrev pub path_with : NodeData → ℕ → Option (List (List ℕ))
path_with root phandle = find (λ node_path. option_map_or (nat_eq phandle) (phandle_at (path_map root) node_path) false) (preorder root)

-- the node that a phandle leads to: its properties, and the device that it belongs to
pub record Target : Type 0 where
  pub properties : List Property
  pub device : Option ℕ

abbrev pub target_of : NodeData → ℕ → Option Target
target_of root phandle = option_map (λ node_path. record { properties = properties_of root node_path; device = nearest_device root node_path }) (path_with root phandle)
