-- What an empty node added to a blob makes of it: the tree *with first child*, all else as it was.
use Rattle.std.specs.Prelude.{◌≡◌, ℕ, ◌+◌, ◌*◌, ◌/◌, not, ◌||◌, nat_lt, List, [], ◌∷◌, ◌++◌, length, Option, Some, None, if◌then◌else◌}
use Rattle.std.specs.Option.{option_map}
use Rattle.dt_tree.specs.Changes.{same_path, with_nodes}
use Rattle.dt_tree.specs.Limits.{depth_limit}
use Rattle.dt_tree.specs.Name.{is_name}
use Rattle.dt_tree.specs.NodeData.{NodeData, child_names}
use Rattle.dt_tree.specs.Path.{is_path, path_names}
use Rattle.dt_tree.specs.PathMap.{PathMap, node_at, tree_map}
use Rattle.dt_tree.specs.Sound.{is_among}
use Rattle.dt_tree.specs.TreeData.{TreeData, IsTree}
use Rattle.dt_blob.specs.Holds.{Holds}
use Rattle.dt_patch.specs.View.Reserved.{reserved_size}
use Rattle.dt_patch.specs.declared.error.PatchError.{PatchError}
use Rattle.dt_patch.specs.declared.error.PatchError.TheVariants.{BadName, BadPath, Exists, NoNode, TooDeep}
use Rattle.dt_patch.specs.Order.{is_ordered}
use Rattle.dt_patch.specs.Setting.{or_short, or_unordered, used_size}

-- the node at the path has one child more, its first, with nothing in it: as in libfdt it stands behind the properties
abbrev pub with_first_child : {V : Type 0} → List (List ℕ) → List ℕ → PathMap V → PathMap V
with_first_child path k m = record {
  has = λ q. same_path (path ++ k ∷ []) q || m.has q;
  properties = λ q. if same_path (path ++ k ∷ []) q then Some [] else m.properties q;
  children = λ q. if same_path (path ++ k ∷ []) q then Some [] else (if same_path path q then option_map (λ ns. k ∷ ns) (m.children q) else m.children q);
  value = m.value;
}

pub record IsWithNode (path : List (List ℕ)) (name : List ℕ) (tree changed : TreeData) : Type 0 where
  pub is : IsTree changed
  pub map : tree_map changed ≡ with_nodes (with_first_child path name) (tree_map tree)

-- the bytes hold the tree with the node
pub record HoldsWithNode (bytes : List ℕ) (tree : TreeData) (path : List (List ℕ)) (name : List ℕ) : Type 0 where
  pub changed : TreeData
  pub with_it : IsWithNode path name tree changed
  pub held : Holds bytes changed

-- why a node has no child more of this name, at a depth
abbrev pub child_fault : Option NodeData → List ℕ → ℕ → Option PatchError
child_fault None name depth = Some NoNode
child_fault (Some node) name depth =
    if not (is_name name) then Some BadName
    else (if is_among name (child_names node.children) then Some Exists
    else (if nat_lt depth depth_limit then None else Some TooDeep))

abbrev pub growth_fault : NodeData → List ℕ → List ℕ → Option PatchError
growth_fault root path name = if is_path path then child_fault (node_at root (path_names path)) name (length (path_names path)) else Some BadPath

-- the bytes of an empty node whose name has so many (section 5.4.1): a word, the name and its zero byte up to a multiple of 4, a word
abbrev pub node_size : ℕ → ℕ
node_size n = 8 + (n + 4) / 4 * 4

-- how many bytes are wanted for a node of this name
abbrev pub wanted_to_add : List ℕ → List ℕ → ℕ
wanted_to_add bytes name = used_size bytes + node_size (length name)

-- why a node isn't added, the first of the reasons in this order
abbrev pub add_node_fault : List ℕ → TreeData → List ℕ → List ℕ → Option PatchError
add_node_fault bytes tree path name =
    or_short (or_unordered (growth_fault tree.root path name) (is_ordered bytes (reserved_size tree.reserves))) (wanted_to_add bytes name) (length bytes)
