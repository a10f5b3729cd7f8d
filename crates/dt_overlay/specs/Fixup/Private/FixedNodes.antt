-- The nodes that local fixups are of (dt-object-internal, section 2.3).
use Rattle.std.specs.Prelude.{◌≡◌, ℕ, ◌≤◌, true, false, List, [], ◌∷◌, length, drop, slice_index_or}
use Rattle.dt_source.specs.TreeMeaning.Paths.{Path, is_within}
use Rattle.dt_source.specs.TreeMeaning.Names.{local_fixups_name}
use Rattle.dt_live.specs.declared.live_tree.NodeRow.{NodeRow}
use Rattle.dt_live.specs.declared.live_tree.LiveTree.{LiveTree}
use Rattle.dt_live.specs.Rows.{node_path, path_of, property_at}
use Rattle.dt_live.specs.Flattened.{Lent}
use Rattle.dt_overlay.specs.declared.fixup.fixed_nodes.FixedNode.{FixedNode}
use Rattle.dt_overlay.specs.declared.fixup.fixed_nodes.FixedNode.TheVariants.{NotLocal, Missing, Node}
use Rattle.dt_overlay.specs.declared.fixup.local.LocalFixup.{LocalFixup}

-- what the local fixups of the node at a path are of: of nothing, of no node, or of a node
abbrev pub IsFixedNode : List NodeRow → Path → FixedNode → Type 0
IsFixedNode rows p NotLocal = is_within (local_fixups_name ∷ []) p ≡ false
IsFixedNode rows p Missing = (is_within (local_fixups_name ∷ []) p ≡ true) × ((m : ℕ) → m ≤ length rows → drop 1 p ≡ path_of rows m → ⊥)
IsFixedNode rows p (Node m) = (is_within (local_fixups_name ∷ []) p ≡ true) × (m ≤ length rows) × (drop 1 p ≡ path_of rows m)

-- the same of a node by its number
abbrev pub IsFixedNodeOf : LiveTree Lent → ℕ → FixedNode → Type 0
IsFixedNodeOf d n fixed_node = IsFixedNode d.nodes.items (node_path d n) fixed_node

abbrev pub AreFixedNodes : LiveTree Lent → List FixedNode → Type 0
AreFixedNodes d xs = (n : ℕ) → n ≤ length d.nodes.items → IsFixedNodeOf d n (slice_index_or xs n NotLocal)

-- the node of row k
abbrev pub row_node : LiveTree Lent → ℕ → ℕ
row_node d k = (property_at d.properties.items k).node

-- a local fixup stands below `/__local_fixups__`, and is of what it says
pub record IsLocalFixup (d : LiveTree Lent) (f : LocalFixup) : Type 0 where
  pub fixed_node : IsFixedNodeOf d f.node f.fixed_node
  pub below : is_within (local_fixups_name ∷ []) (node_path d f.node) ≡ true
