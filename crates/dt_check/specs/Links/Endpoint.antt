-- An edge of a graph (bindings graph.txt of Linux): the `remote-endpoint` of an endpoint leads to another, whose own leads back.
use Rattle.std.specs.Prelude.{ℕ, not, ◌==◌, codes, if◌then◌else◌, List, Option, Some, None}
use Rattle.std.specs.Option.{option_map_or}
use Rattle.dt_tree.specs.Cell.{cell_in}
use Rattle.dt_check.specs.declared.message.Graph.TheVariants.{Endpoint}
use Rattle.dt_check.specs.declared.message.Message.TheVariants.{NoRemote, OneWay}
use Rattle.dt_check.specs.Fault.{of_node, of_property}
use Rattle.dt_check.specs.Nodes.{PlacedData, HereData, value_at, place_with}
use Rattle.dt_check.specs.declared.links.endpoint.Remote.{Remote}
use Rattle.dt_check.specs.declared.links.endpoint.Remote.TheVariants.{Nothing, Invalid, Node}
use Rattle.dt_check.specs.Links.Graph.{is_of}
use Rattle.dt_check.specs.Links.Link.{LinkFaultData, at_node}
use Rattle.dt_check.specs.Links.Lists.{is_no_phandle}

abbrev pub remote_by : List PlacedData → ℕ → Remote
remote_by nodes phandle = if is_no_phandle phandle then Nothing else option_map_or Node (place_with nodes phandle) Invalid

-- where the node's `remote-endpoint` leads
abbrev pub remote_of : List PlacedData → ℕ → Remote
remote_of nodes place =
    option_map_or (λ v. option_map_or (remote_by nodes) (cell_in v) Nothing) (value_at nodes place (codes "remote-endpoint")) Nothing

abbrev pub invalid_fault : Remote → ℕ → Option LinkFaultData
invalid_fault Invalid place = Some (at_node place (of_property (codes "remote-endpoint") NoRemote))
invalid_fault Nothing place = None
invalid_fault (Node n) place = None

abbrev pub near_fault : List PlacedData → HereData → ℕ → Option LinkFaultData
near_fault nodes here place = if not (is_of Endpoint here) then None else invalid_fault (remote_of nodes place) place

-- of the other end
abbrev pub far_end : List PlacedData → Remote → Option LinkFaultData
far_end nodes (Node n) = invalid_fault (remote_of nodes n) n
far_end nodes Nothing = None
far_end nodes Invalid = None

abbrev pub far_fault : List PlacedData → HereData → ℕ → Option LinkFaultData
far_fault nodes here place = if not (is_of Endpoint here) then None else far_end nodes (remote_of nodes place)

-- from the other end back to the place
abbrev pub back_to : ℕ → ℕ → Remote → Option LinkFaultData
back_to node place (Node back) = if back == place then None else Some (at_node place (of_node (OneWay node)))
back_to node place Nothing = Some (at_node place (of_node (OneWay node)))
back_to node place Invalid = Some (at_node place (of_node (OneWay node)))

abbrev pub way_back : List PlacedData → ℕ → ℕ → Option LinkFaultData
way_back nodes node place = back_to node place (remote_of nodes node)

abbrev pub back_from : List PlacedData → ℕ → Remote → Option LinkFaultData
back_from nodes place (Node n) = way_back nodes n place
back_from nodes place Nothing = None
back_from nodes place Invalid = None

abbrev pub one_way_fault : List PlacedData → HereData → ℕ → Option LinkFaultData
one_way_fault nodes here place = if not (is_of Endpoint here) then None else back_from nodes place (remote_of nodes place)
