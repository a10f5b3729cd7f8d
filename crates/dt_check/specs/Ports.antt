-- Ports of graphs (bindings graph.txt of Linux): a port has endpoints, nodes of that name or with `remote-endpoint`.
use Rattle.std.specs.Prelude.{Bool, ◌||◌, codes}
use Rattle.std.specs.List.{list_any}
use Rattle.dt_tree.specs.NodeData.{NodeData, nodes_of}
use Rattle.dt_check.specs.Buses.{is_called}
use Rattle.dt_check.specs.Cells.{has}

abbrev pub is_endpoint : NodeData → Bool
is_endpoint b = is_called (codes "endpoint") b || has b.properties (codes "remote-endpoint")

abbrev pub is_port : NodeData → Bool
is_port b = list_any is_endpoint (nodes_of b.children)
