-- Lists of places: of devices in a plan, or of lists in a table.
use Rattle.std.specs.Prelude.{ℕ, Bool, true, not, ◌&&◌, ◌==◌, List, [], ◌∷◌}
use Rattle.std.specs.List.{list_any}

abbrev pub is_in : ℕ → List ℕ → Bool
is_in place places = list_any (λ other. place == other) places

-- no place stands twice
abbrev pub are_once : List ℕ → Bool
are_once [] = true
are_once (place ∷ more) = not (is_in place more) && are_once more
