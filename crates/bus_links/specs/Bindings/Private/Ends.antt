-- How a node is put behind the endpoints of its device.
use Rattle.std.specs.Prelude.{◌≡◌, ℕ, ◌<◌, ◌&&◌, codes, if◌then◌else◌, List, [], ◌++◌, length, Option, None, is_some}
use Rattle.std.specs.List.{slice_index_or}
use Rattle.dt_tree.specs.PathMap.{value_of}
use Rattle.bus_links.specs.Bindings.Endpoints.{own_ends}
use Rattle.bus_links.specs.Bindings.LinkNodes.{LinkNode, node_at}

-- the device of which a node is an endpoint
abbrev pub end_device : List LinkNode → LinkNode → Option ℕ
end_device nodes node =
    if is_some (value_of node.properties (codes "remote-endpoint")) && node.usable then (node_at nodes node.above).device else None

-- the list of each device gets the place where the node is its endpoint
pub record GainsEnd (nodes : List LinkNode) (place : ℕ) (node : LinkNode) (old new : List (List ℕ)) : Type 0 where
  pub count : length new ≡ length old
  pub lists : (d : ℕ) → d < length old → slice_index_or new d [] ≡ slice_index_or old d [] ++ own_ends nodes d place node
