-- What a property or a node taken out of a blob makes of it: the tree *without property*, *without child* (`Changes`), all else as it was.
use Rattle.std.specs.Prelude.{◌≡◌, ℕ, ◌==◌, List, [], ◌∷◌, ◌++◌, length, Option, Some, None, if◌then◌else◌}
use Rattle.dt_tree.specs.Changes.{with_nodes, without_child, without_property}
use Rattle.dt_tree.specs.NodeData.{NodeData}
use Rattle.dt_tree.specs.Path.{is_path, path_names}
use Rattle.dt_tree.specs.PathMap.{node_at, tree_map, value_of}
use Rattle.dt_tree.specs.TreeData.{TreeData, IsTree}
use Rattle.dt_blob.specs.Holds.{Holds}
use Rattle.dt_patch.specs.View.Reserved.{reserved_size}
use Rattle.dt_patch.specs.declared.error.PatchError.{PatchError}
use Rattle.dt_patch.specs.declared.error.PatchError.TheVariants.{BadPath, NoNode, NoProperty, Root}
use Rattle.dt_patch.specs.Order.{is_ordered}
use Rattle.dt_patch.specs.Setting.{missing, or_unordered}

-- ---- a property

pub record IsWithoutProperty (path : List (List ℕ)) (name : List ℕ) (tree changed : TreeData) : Type 0 where
  pub is : IsTree changed
  pub map : tree_map changed ≡ with_nodes (without_property path name) (tree_map tree)

-- the bytes hold the tree without the property
pub record HoldsWithoutProperty (bytes : List ℕ) (tree : TreeData) (path : List (List ℕ)) (name : List ℕ) : Type 0 where
  pub changed : TreeData
  pub without_it : IsWithoutProperty path name tree changed
  pub held : Holds bytes changed

abbrev pub value_missing : Option (List ℕ) → Option PatchError
value_missing None = Some NoProperty
value_missing (Some value) = None

abbrev pub property_missing : Option NodeData → List ℕ → Option PatchError
property_missing None name = Some NoNode
property_missing (Some node) name = value_missing (value_of node.properties name)

abbrev pub absence_fault : NodeData → List ℕ → List ℕ → Option PatchError
absence_fault root path name = if is_path path then property_missing (node_at root (path_names path)) name else Some BadPath

-- why a property isn't deleted, the first of the reasons in this order
abbrev pub delete_property_fault : List ℕ → TreeData → List ℕ → List ℕ → Option PatchError
delete_property_fault bytes tree path name = or_unordered (absence_fault tree.root path name) (is_ordered bytes (reserved_size tree.reserves))

-- ---- a node, with all below it

-- the node at the path is the child of this name of the one above it, which is without it
pub record IsWithoutNode (path : List (List ℕ)) (tree changed : TreeData) : Type 0 where
  pub above : List (List ℕ)
  pub name : List ℕ
  pub is_path : path ≡ above ++ name ∷ []
  pub is : IsTree changed
  pub map : tree_map changed ≡ with_nodes (without_child above name) (tree_map tree)

-- the bytes hold the tree without the node
pub record HoldsWithoutNode (bytes : List ℕ) (tree : TreeData) (path : List (List ℕ)) : Type 0 where
  pub changed : TreeData
  pub without_it : IsWithoutNode path tree changed
  pub held : Holds bytes changed

-- the root stays
abbrev pub removal_fault : NodeData → List ℕ → Option PatchError
removal_fault root path =
    if is_path path then (if length (path_names path) == 0 then Some Root else missing (node_at root (path_names path))) else Some BadPath

-- why a node isn't deleted, the first of the reasons in this order
abbrev pub delete_node_fault : List ℕ → TreeData → List ℕ → Option PatchError
delete_node_fault bytes tree path = or_unordered (removal_fault tree.root path) (is_ordered bytes (reserved_size tree.reserves))
