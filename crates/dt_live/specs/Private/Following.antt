-- Paths through an index, name by name.
use Rattle.std.specs.Prelude.{ℕ, List, [], ◌∷◌, Option, Some}
use Rattle.std.specs.Option.{option_and_then}

-- the node at the end of names
abbrev pub node_behind : (ℕ → List ℕ → Option ℕ) → ℕ → List (List ℕ) → Option ℕ
node_behind found n [] = Some n
node_behind found n (k ∷ ks) = option_and_then (λ m. node_behind found m ks) (found n k)
