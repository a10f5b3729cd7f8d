-- What the devices of a tree name that is disabled (Devicetree Specification, section 2.3.4: `status`). Linux makes no link by it
-- (drivers/of/property.c of 6.1: `of_get_compat_node`, `of_link_to_phandle`), so nothing waits for it.
use Rattle.std.specs.Prelude.{ℕ, ◌+◌, Bool, if◌then◌else◌, List, [], ◌∷◌, ◌++◌, map, Option, Some, None, option_and_then}
use Rattle.std.specs.Option.{option_to_list}
use Rattle.dt_tree.specs.NodeData.{NodeData}
use Rattle.bus_links.specs.Bindings.LinkNodes.{LinkNode, node_at, tree_nodes, device_places}
use Rattle.bus_links.specs.Bindings.Endpoints.{found_of}
use Rattle.bus_links.specs.Bindings.Mentions.{MentionData}
use Rattle.bus_links.specs.Links.{LinkData, link_by, node_of}

-- the device at this place, where it isn't usable: it or a node above it isn't okay
abbrev pub if_lost : List LinkNode → List ℕ → ℕ → Option ℕ
if_lost nodes places device = if (node_at nodes (node_of places device)).usable then None else Some device

-- the nearest device at or above a node, where it isn't usable
abbrev pub lost_supplier : List LinkNode → List ℕ → ℕ → Option ℕ
lost_supplier nodes places node = option_and_then (if_lost nodes places) (node_at nodes node).device

-- the entries of the device at this place that lead to one
abbrev pub lost_by : List LinkNode → List ℕ → ℕ → List MentionData → List LinkData
lost_by nodes places own [] = []
lost_by nodes places own (m ∷ ms) =
    map (link_by nodes own m) (option_to_list (lost_supplier nodes places m.node)) ++ lost_by nodes places own ms

-- those of all that the device at this place and node names, where it is usable itself
abbrev pub lost_of : List LinkNode → List ℕ → Bool → ℕ → ℕ → List LinkData
lost_of nodes places strict own node =
    if (node_at nodes node).usable then lost_by nodes places own (found_of nodes strict own node).mentions else []

-- those of the devices with these nodes, the first of which has this place
abbrev pub lost_from : List LinkNode → List ℕ → Bool → ℕ → List ℕ → List LinkData
lost_from nodes places strict own [] = []
lost_from nodes places strict own (node ∷ others) = lost_of nodes places strict own node ++ lost_from nodes places strict (own + 1) others

-- those of each device of a tree, by its root
abbrev pub tree_lost : NodeData → Bool → List LinkData
tree_lost root strict = lost_from (tree_nodes root) (device_places (tree_nodes root)) strict 0 (device_places (tree_nodes root))
