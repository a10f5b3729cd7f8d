-- A node's fields as contracts see them.
use Rattle.std.specs.Prelude.{ℕ, List, [], Option, Some, None}
use Rattle.dt_tree.specs.NodeData.{NodeData, siblings}
use Rattle.dt_tree.specs.declared.node.Node.TheInside.{Inside}

-- the bytes of the name, none for the root
abbrev pub name_bytes : Option (List ℕ) → List ℕ
name_bytes None = []
name_bytes (Some n) = n

abbrev pub node_of : Inside → NodeData
node_of a = record { name = name_bytes a.name; properties = a.properties.items; children = siblings a.children.items }
