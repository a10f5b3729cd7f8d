-- The place of one node.
use Rattle.std.specs.Prelude.{ℕ, false, nat_eq, if◌then◌else◌, List, Option, Some, None}
use Rattle.std.specs.Option.{option_map_or}
use Rattle.dt_tree.specs.declared.property.Property.{Property}
use Rattle.dt_check.specs.Nodes.{number_of}

-- the place, where the node has this phandle
abbrev pub own_place : List Property → ℕ → ℕ → Option ℕ
own_place p place phandle = if option_map_or (nat_eq phandle) (number_of p) false then Some place else None
