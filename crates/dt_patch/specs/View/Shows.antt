-- When a blob that is read in place shows a tree: Devicetree Specification v0.4, chapter 5.
use Rattle.std.specs.Prelude.{◌≡◌, ℕ, ◌≤◌, List, [], None, IsTrue}
use Rattle.dt_tree.specs.Limits.{depth_limit}
use Rattle.dt_tree.specs.Name.{is_name, are_names}
use Rattle.dt_tree.specs.NodeData.{NodeData, Siblings, none, more, property_names, height_of}
use Rattle.dt_tree.specs.TreeData.{TreeData}
use Rattle.dt_blob.specs.Blocks.{structure_in}
use Rattle.dt_blob.specs.HeaderWords.{header_of, header_fault, reserves_of, strings_of}
use Rattle.dt_blob.specs.Holds.{Reserves, StructureSpells}
use Rattle.dt_blob.specs.Token.{tree_tokens}
use Rattle.dt_patch.specs.View.Standing.{Ahead}
use Rattle.dt_patch.specs.declared.view.view.View.{View}

-- lawful names at every level
abbrev pub NamedBelow : Siblings → Type 0
NamedBelow none = Unit {0}
NamedBelow (more name ps children rest) = IsTrue (is_name name) × IsTrue (are_names (property_names ps)) × NamedBelow children × NamedBelow rest

-- a root within the limits of depth and names; its siblings and properties may be equal
pub record IsNamed (root : NodeData) : Type 0 where
  pub no_name : root.name ≡ []
  pub properties : IsTrue (are_names (property_names root.properties))
  pub below : NamedBelow root.children
  pub shallow : height_of root.children ≤ depth_limit

-- the bytes show the tree: they hold it, but for siblings and properties that are equal
pub record Shows (bytes : List ℕ) (tree : TreeData) : Type 0 where
  pub header : header_fault bytes ≡ None
  pub reserves : Reserves tree.reserves (reserves_of bytes)
  pub structure : StructureSpells bytes tree.root
  pub boot_cpu : tree.boot_cpu ≡ (header_of bytes).boot_cpu
  pub limits : IsNamed tree.root

-- the blocks of a view have the tree
pub record Views (view : View) (tree : TreeData) : Type 0 where
  pub reserves : Reserves tree.reserves view.reserves.now
  pub root : Ahead view 0 (tree_tokens tree.root)
  pub boot_cpu : tree.boot_cpu ≡ view.boot_cpu

-- the view's blocks are those of the bytes
pub record IsOver (bytes : List ℕ) (view : View) : Type 0 where
  pub reserves : view.reserves.now ≡ reserves_of bytes
  pub structure : view.structure.now ≡ structure_in bytes
  pub strings : view.strings.now ≡ strings_of bytes
  pub boot_cpu : view.boot_cpu ≡ (header_of bytes).boot_cpu
