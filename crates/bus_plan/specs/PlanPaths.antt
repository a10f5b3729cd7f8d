-- Lists of paths.
use Rattle.std.specs.Prelude.{ℕ, Bool, true, not, ◌&&◌, List, [], ◌∷◌}
use Rattle.std.specs.List.{list_any, list_all, position_or_len}
use Rattle.std.specs.Str.{bytes_eq}

abbrev pub is_among : List ℕ → List (List ℕ) → Bool
is_among path others = list_any (bytes_eq path) others

-- no path stands twice
abbrev pub are_distinct : List (List ℕ) → Bool
are_distinct [] = true
are_distinct (path ∷ more) = not (is_among path more) && are_distinct more

-- each path is among the others
abbrev pub are_known : List (List ℕ) → List (List ℕ) → Bool
are_known known paths = list_all (λ path. is_among path known) paths

-- the place of a path among the others
abbrev pub place_of : List (List ℕ) → List ℕ → ℕ
place_of known path = position_or_len (bytes_eq path) known
