-- Nodes in preorder, and their phandles.
use Rattle.std.specs.Prelude.{◌≡◌, ◌+◌, ◌==◌, ℕ, false, length, slice_index_or}
use Rattle.std.specs.List.{list_any}
use Rattle.dt_source.specs.TreeMeaning.Paths.{Path}
use Rattle.dt_live.specs.Rows.{IsNode, node_path}
use Rattle.dt_build.specs.declared.draft.Draft.{Draft}
use Rattle.dt_build.specs.declared.node_phandles.NodePhandles.{NodePhandles}
use Rattle.dt_build.specs.Private.FirstPhandle.{number_of}

-- the path of the node that is made next
abbrev pub path_at : Draft → ℕ → Path
path_at p k = node_path p.live (slice_index_or p.in_preorder.nodes.items k 0)

-- the phandle of each node, and whether it gets a property
pub record AreNodePhandles (p : Draft) (n : NodePhandles) : Type 0 where
  pub count : length n.phandles.items ≡ length p.live.nodes.items + 1
  pub marks : length n.added.items ≡ length p.live.nodes.items + 1
  pub phandles : (k : ℕ) → IsNode p.live k → slice_index_or n.phandles.items k 0 ≡ number_of p k
  pub added : (k : ℕ) → slice_index_or n.added.items k false ≡ list_any (λ x. x.node == k) p.added.items
