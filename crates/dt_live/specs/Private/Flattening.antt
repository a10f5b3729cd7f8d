-- Lists of nodes and properties with one more, or a tree more: what is there keeps its place, what is new goes last.
use Rattle.std.specs.Prelude.{ℕ, List, [], ◌∷◌, ◌++◌, if◌then◌else◌}
use Rattle.dt_tree.specs.declared.property.Property.{Property}
use Rattle.dt_tree.specs.NodeData.{Siblings, none, more, NodeData}
use Rattle.dt_source.specs.TreeMeaning.Paths.{Path, is_listed}
use Rattle.dt_source.specs.TreeMeaning.Edits.{put}
use Rattle.dt_source.specs.TreeMeaning.Resolved.{Resolved}
use Rattle.dt_live.specs.declared.live_tree.LiveTree.{LiveTree}
use Rattle.dt_live.specs.Rows.{node_path}
use Rattle.dt_live.specs.Flattened.{Lent, lists}

-- a node
abbrev pub with_path : Path → Resolved → Resolved
with_path p r = record { nodes = if is_listed p r.nodes then r.nodes else r.nodes ++ p ∷ []; properties = r.properties }

-- properties of the node at a path
abbrev pub with_value : Path → Property → Resolved → Resolved
with_value p x r = record { nodes = r.nodes; properties = put p x.name x.value r.properties }

abbrev pub with_values : Path → List Property → Resolved → Resolved
with_values p [] r = r
with_values p (x ∷ xs) r = with_values p xs (with_value p x r)

-- nodes side by side below a path, each with its properties and all below it
abbrev pub with_siblings : Path → Siblings → Resolved → Resolved
with_siblings p none r = r
with_siblings p (more n ps c rest) r =
    with_siblings p rest (with_siblings (p ++ n ∷ []) c (with_values (p ++ n ∷ []) ps (with_path (p ++ n ∷ []) r)))

-- the properties of a node, and all below it
abbrev pub with_tree : Path → NodeData → Resolved → Resolved
with_tree p b r = with_siblings p b.children (with_values p b.properties r)

-- a live tree with more properties of a node
abbrev pub with_properties : LiveTree Lent → ℕ → List Property → Resolved
with_properties d n xs = with_values (node_path d n) xs (lists d)
