-- The nodes of a tree builder as contracts see them.
use Rattle.std.specs.Prelude.{List, [], ◌∷◌, ◌++◌, map}
use Rattle.dt_tree.specs.NodeData.{NodeData, none, more, node_data, siblings}
use Rattle.dt_tree.specs.NodeView.{name_bytes}
use Rattle.dt_live.specs.declared.builder.node_builder.NodeBuilder.{NodeBuilder}
use Rattle.dt_live.specs.Builder.Builders.{beside}
use Rattle.dt_live.specs.declared.builder.tree_builder.TreeBuilder.TheInside.{Inside}

abbrev pub node_so_far : NodeBuilder → NodeData
node_so_far o = node_data (name_bytes o.name) o.properties.items (siblings o.children.items)

-- the same node with one more child
abbrev pub with_last_child : NodeBuilder → NodeData → NodeData
with_last_child o child =
    node_data (name_bytes o.name) o.properties.items (beside (siblings o.children.items) (more child.name child.properties child.children none))

-- the root first
abbrev pub builder_nodes : Inside → List NodeData
builder_nodes a = map node_so_far a.above.items ++ node_so_far a.last ∷ []
