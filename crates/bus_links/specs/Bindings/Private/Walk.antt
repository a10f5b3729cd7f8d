-- A node more, and all below it.
use Rattle.std.specs.Prelude.{ℕ, false, nat_eq, if◌then◌else◌, List, Option, Some, None}
use Rattle.std.specs.Option.{option_map_or}
use Rattle.dt_tree.specs.declared.property.Property.{Property}
use Rattle.dt_tree.specs.NodeData.{NodeData}
use Rattle.dt_tree.specs.Phandle.{phandle_of}
use Rattle.bus_links.specs.Bindings.LinkNodes.{Above, Met, here, with_node, with_siblings}

abbrev pub with_tree : Above → Met → NodeData → Met
with_tree above met b = with_siblings (here above met b.properties) (with_node above met b.name b.properties) b.children

-- the place, where the node has this phandle
abbrev pub own_place : List Property → ℕ → ℕ → Option ℕ
own_place p place phandle = if option_map_or (nat_eq phandle) (phandle_of p) false then Some place else None
