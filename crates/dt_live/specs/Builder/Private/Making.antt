-- A tree that is made node by node, in the order of the walk (Devicetree Specification v0.4, section 6.3).
use Rattle.std.specs.Prelude.{◌≡◌, ℕ, ◌≤◌, ◌-◌, List, [], length, slice_index_or, take}
use Rattle.std.specs.List.{flat_map}
use Rattle.dt_tree.specs.NodeData.{NodeData}
use Rattle.dt_source.specs.TreeMeaning.References.{held, preorder}
use Rattle.dt_source.specs.TreeMeaning.Resolved.{Resolved}
use Rattle.dt_live.specs.Builder.Builders.{built_lists, last_path}
use Rattle.dt_live.specs.Builder.Standing.{behind_root}

-- the first nodes in the order of the walk, and their properties
abbrev pub first_nodes : Resolved → ℕ → Resolved
first_nodes r k = record {
  nodes = behind_root (take k (preorder r.nodes));
  properties = flat_map (held r.properties) (take k (preorder r.nodes));
}

-- so many nodes were made, the root first
pub record IsMade (r : Resolved) (k : ℕ) (bs : List NodeData) : Type 0 where
  pub root : 1 ≤ k
  pub within : k ≤ length (preorder r.nodes)
  pub lists : built_lists bs ≡ first_nodes r k
  pub last_node : last_path bs ≡ slice_index_or (preorder r.nodes) (k - 1) []
