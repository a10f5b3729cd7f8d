-- What explains that two nodes have one address: one of them stands above the other, or memory (Devicetree Specification v0.4, section 3.4)
-- holds what is reserved in it (section 3.5).
use Rattle.std.specs.Prelude.{ℕ, zero, suc, Bool, false, ◌&&◌, ◌||◌, ◌==◌, codes, List}
use Rattle.std.specs.Option.{option_map_or}
use Rattle.std.specs.Str.{bytes_eq}
use Rattle.dt_check.specs.Nodes.{PlacedData, above_at}
use Rattle.dt_questions.specs.Nodes.{has_string_at}
use Rattle.dt_questions.specs.Paths.{most_levels, name_at}

-- a node, or one above it over so many levels, is this one
abbrev pub is_within : List PlacedData → ℕ → ℕ → ℕ → Bool
is_within nodes zero top place = false
is_within nodes (suc levels) top place = place == top || option_map_or (is_within nodes levels top) (above_at nodes place) false

abbrev pub are_one_line : List PlacedData → ℕ → ℕ → Bool
are_one_line nodes a b = is_within nodes most_levels a b || is_within nodes most_levels b a

abbrev pub is_memory : List PlacedData → ℕ → Bool
is_memory nodes place = has_string_at nodes place (codes "device_type") (codes "memory")

-- a child of `/reserved-memory`
abbrev pub is_reserved : List PlacedData → ℕ → Bool
is_reserved nodes place = option_map_or (λ above. bytes_eq (name_at nodes above) (codes "reserved-memory")) (above_at nodes place) false

abbrev pub holds_reserved : List PlacedData → ℕ → ℕ → Bool
holds_reserved nodes a b = is_memory nodes a && is_reserved nodes b || is_memory nodes b && is_reserved nodes a

abbrev pub is_explained : List PlacedData → ℕ → ℕ → Bool
is_explained nodes a b = are_one_line nodes a b || holds_reserved nodes a b
