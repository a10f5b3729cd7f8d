-- The strings block (Devicetree Specification v0.4, section 5.5), as a function of the names in order of the walk.
use Rattle.std.specs.Prelude.{ℕ, suc, ◌==◌, Bool, true, false, ◌&&◌, List, [], ◌∷◌, ◌++◌, length, Option, Some, None, if◌then◌else◌}
use Rattle.std.specs.Option.{option_map, option_map_or}

-- whether the text begins with these bytes
abbrev pub begins : List ℕ → List ℕ → Bool
begins [] text = true
begins (b ∷ bytes) [] = false
begins (b ∷ bytes) (c ∷ text) = b == c && begins bytes text

-- the lowest offset at which these bytes stand in the text
abbrev pub lowest_place : List ℕ → List ℕ → Option ℕ
lowest_place bytes [] = if begins bytes [] then Some 0 else None
lowest_place bytes (c ∷ text) = if begins bytes (c ∷ text) then Some 0 else option_map suc (lowest_place bytes text)

-- a name with its zero byte
abbrev pub ended : List ℕ → List ℕ
ended name = name ++ 0 ∷ []

-- a name's offset: the lowest at which it stands with a zero byte in the strings so far, else their end
abbrev pub offset_in : List ℕ → List ℕ → ℕ
offset_in strings name = option_map_or (λ place. place) (lowest_place (ended name) strings) (length strings)

-- the strings once a name is needed: a new one is added
abbrev pub with_name : List ℕ → List ℕ → List ℕ
with_name strings name = option_map_or (λ _. strings) (lowest_place (ended name) strings) (strings ++ ended name)

-- the strings after names in order
abbrev pub with_names : List ℕ → List (List ℕ) → List ℕ
with_names strings [] = strings
with_names strings (name ∷ names) = with_names (with_name strings name) names
