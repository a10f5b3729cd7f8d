-- The ends of a graph's edges (Documentation/devicetree/bindings/graph.txt). An endpoint stands below the device that it belongs to, and
-- its `remote-endpoint` makes that device wait for the one of the other end (drivers/of/property.c of Linux 6.1:
-- `parse_remote_endpoint`, whose binding is `node_not_dev`, and `of_graph_get_port_parent`).
use Rattle.std.specs.Prelude.{ℕ, ◌+◌, Bool, false, ◌&&◌, ◌||◌, ◌==◌, codes, if◌then◌else◌, List, [], ◌∷◌, ◌++◌, take, is_some}
use Rattle.std.specs.Option.{option_map_or}
use Rattle.dt_tree.specs.Cell.{cell_in}
use Rattle.dt_tree.specs.PathMap.{value_of}
use Rattle.bus_links.specs.Bindings.Interrupts.{bytes_at}
use Rattle.bus_links.specs.Bindings.LinkNodes.{LinkNode, node_at, is_named, place_with}
use Rattle.bus_links.specs.Bindings.Mentions.{FoundData, nothing, and_then, mentioned, fault, found_at}

-- ---- whose they are
-- a node is an endpoint of the nearest device above it, where it may be used
abbrev pub is_end_of : List LinkNode → ℕ → LinkNode → Bool
is_end_of nodes own node =
    is_some (value_of node.properties (codes "remote-endpoint")) && node.usable && option_map_or (λ device. device == own) (node_at nodes node.above).device false

-- the place, where the node there is an endpoint of this device
abbrev pub own_ends : List LinkNode → ℕ → ℕ → LinkNode → List ℕ
own_ends nodes own place node = if is_end_of nodes own node then place ∷ [] else []

-- the places of the endpoints of this device among these nodes, the first of which has this place
abbrev pub ends_from : List LinkNode → ℕ → ℕ → List LinkNode → List ℕ
ends_from nodes own place [] = []
ends_from nodes own place (node ∷ others) = own_ends nodes own place node ++ ends_from nodes own (place + 1) others

abbrev pub ends_of : List LinkNode → ℕ → List ℕ
ends_of nodes own = ends_from nodes own 0 nodes

-- ---- what they name
-- a node that holds ports alone
abbrev pub holds_ports : List LinkNode → ℕ → Bool
holds_ports nodes place = is_named nodes place (codes "ports") || (is_named nodes place (codes "in-ports") || is_named nodes place (codes "out-ports"))

-- the node that holds the port of an endpoint: the one two above it, but for one that holds ports alone
abbrev pub holder_at : List LinkNode → ℕ → ℕ
holder_at nodes place = if holds_ports nodes place then (node_at nodes place).above else place

abbrev pub port_holder : List LinkNode → ℕ → ℕ
port_holder nodes place = holder_at nodes (node_at nodes (node_at nodes place).above).above

-- the holder of the other end's port
abbrev pub found_other_end : List LinkNode → ℕ → FoundData
found_other_end nodes phandle =
    if phandle == 0 then nothing
    else option_map_or (λ place. mentioned (codes "remote-endpoint") 0 (port_holder nodes place)) (place_with nodes phandle) (fault (codes "remote-endpoint") 0)

abbrev pub found_end : List LinkNode → ℕ → FoundData
found_end nodes place = option_map_or (found_other_end nodes) (cell_in (take 4 (bytes_at nodes place (codes "remote-endpoint")))) nothing

-- those of all these endpoints, in order
abbrev pub found_ends : List LinkNode → List ℕ → FoundData
found_ends nodes [] = nothing
found_ends nodes (place ∷ places) = and_then (found_end nodes place) (found_ends nodes places)

-- what a device names that has this node: by its own properties, and then by its endpoints
abbrev pub found_of : List LinkNode → Bool → ℕ → ℕ → FoundData
found_of nodes strict own node = and_then (found_at nodes strict node) (found_ends nodes (ends_of nodes own))
