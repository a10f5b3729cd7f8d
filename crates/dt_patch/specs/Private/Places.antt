-- Where a value stands, and what other bytes there make of the blob.
use Rattle.std.specs.Prelude.{◌≡◌, ℕ, ◌+◌, ◌≤◌, List, ◌∷◌, ◌++◌, length, take, drop, true, Some}
use Rattle.dt_tree.specs.NodeData.{NodeData}
use Rattle.dt_tree.specs.Path.{is_path, path_names}
use Rattle.dt_tree.specs.PathMap.{node_at, value_of}
use Rattle.dt_tree.specs.TreeData.{TreeData}
use Rattle.dt_blob.specs.Holds.{Holds}
use Rattle.dt_blob.specs.Token.{begin_node}
use Rattle.dt_patch.specs.declared.view.nodes.NodeOffset.{NodeOffset}
use Rattle.dt_patch.specs.declared.view.properties.PlacedProperty.{PlacedProperty}
use Rattle.dt_patch.specs.declared.view.view.View.{View}
use Rattle.dt_patch.specs.View.Reaching.{Reached, before_node, before_property}
use Rattle.dt_patch.specs.View.Standing.{StandsAt}
use Rattle.dt_patch.specs.Setting.{HoldsWith}

-- the bytes with others from a place on
abbrev pub put_at : List ℕ → ℕ → List ℕ → List ℕ
put_at bytes at new = take at bytes ++ (new ++ drop (at + length new) bytes)

-- the node at the path stands there
pub record IsNodeOf (view : View) (tree : TreeData) (path : List ℕ) (n : NodeOffset) : Type 0 where
  pub is_path : is_path path ≡ true
  pub node : NodeData
  pub there : node_at tree.root (path_names path) ≡ Some node
  pub stands : StandsAt view n.at node
  pub reached : Reached view n.at (before_node tree.root (path_names path))

-- the property of the node at the path stands there
pub record IsPropertyOf (view : View) (tree : TreeData) (path name : List ℕ) (p : PlacedProperty) : Type 0 where
  pub is_path : is_path path ≡ true
  pub node : NodeData
  pub there : node_at tree.root (path_names path) ≡ Some node
  pub value : value_of node.properties name ≡ Some p.value.now
  pub reached : Reached view p.at (before_node tree.root (path_names path) ++ begin_node node.name ∷ before_property node.properties name)

-- any other value of this length there is the property's
pub record IsValuePlace (bytes path name : List ℕ) (n at : ℕ) : Type 0 where
  pub inside : at + n ≤ length bytes
  pub held : (tree : TreeData) (value : List ℕ) → Holds bytes tree → length value ≡ n → HoldsWith (put_at bytes at value) tree (path_names path) name value
