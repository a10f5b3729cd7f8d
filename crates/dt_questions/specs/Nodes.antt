-- What nodes say: numbers of one cell and strings (Devicetree Specification v0.4, section 2.2.4), whether they are used (section 2.3.4), and
-- which belong to what overlays keep in a tree (dt-object-internal).
use Rattle.std.specs.Prelude.{ℕ, zero, suc, Bool, true, false, ◌&&◌, ◌||◌, ◌==◌, codes, if◌then◌else◌, List, Option, option_and_then}
use Rattle.std.specs.Option.{option_map_or}
use Rattle.dt_tree.specs.Cell.{cell_in}
use Rattle.dt_tree.specs.Phandle.{is_reserved_name}
use Rattle.dt_check.specs.Nodes.{PlacedData, value_at, above_at}
use Rattle.dt_questions.specs.Paths.{name_at, most_levels}
use Rattle.dt_questions.specs.Question.{has_text}

abbrev pub cells_at : List PlacedData → ℕ → List ℕ → Option ℕ
cells_at nodes place name = option_and_then cell_in (value_at nodes place name)

abbrev pub has_string_at : List PlacedData → ℕ → List ℕ → List ℕ → Bool
has_string_at nodes place name string = option_map_or (has_text string) (value_at nodes place name) false

-- a node says that it is used, or says nothing
abbrev pub is_okay_at : List PlacedData → ℕ → Bool
is_okay_at nodes place = option_map_or (λ v. has_text (codes "okay") v || has_text (codes "ok") v) (value_at nodes place (codes "status")) true

-- so does each node above it, over so many levels
abbrev pub is_used_within : List PlacedData → ℕ → ℕ → Bool
is_used_within nodes zero place = true
is_used_within nodes (suc levels) place = is_okay_at nodes place && option_map_or (is_used_within nodes levels) (above_at nodes place) true

abbrev pub is_used : List PlacedData → ℕ → Bool
is_used nodes place = is_used_within nodes most_levels place

-- the node below the root that leads to this one has a reserved name
abbrev pub is_hidden_within : List PlacedData → ℕ → ℕ → Bool
is_hidden_within nodes zero place = false
is_hidden_within nodes (suc levels) place =
    option_map_or (λ above. if above == 0 then is_reserved_name (name_at nodes place) else is_hidden_within nodes levels above) (above_at nodes place) false

abbrev pub is_hidden : List PlacedData → ℕ → Bool
is_hidden nodes place = is_hidden_within nodes most_levels place
