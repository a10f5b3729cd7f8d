-- The path of a node (Devicetree Specification v0.4, section 2.2.3): the names from the root to it, each behind a slash; of the root a slash.
use Rattle.std.specs.Prelude.{ℕ, zero, suc, codes, is_some, if◌then◌else◌, List, [], ◌∷◌, ◌++◌}
use Rattle.std.specs.Option.{option_map_or}
use Rattle.dt_check.specs.Nodes.{PlacedData, node_at, above_at}

abbrev pub name_at : List PlacedData → ℕ → List ℕ
name_at nodes place = option_map_or (λ b. b.name) (node_at nodes place) []

-- the names to the node at this place, over so many levels at most
abbrev pub names_within : List PlacedData → ℕ → ℕ → List ℕ
names_within nodes zero place = []
names_within nodes (suc levels) place =
    option_map_or (λ above. names_within nodes levels above ++ 47 ∷ name_at nodes place) (above_at nodes place) []

-- more levels than any tree has
unfoldable pub most_levels : ℕ
most_levels = 66

abbrev pub path_at : List PlacedData → ℕ → List ℕ
path_at nodes place = if is_some (above_at nodes place) then names_within nodes most_levels place else codes "/"
