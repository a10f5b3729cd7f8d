-- What a name that may stand in the strings adds to them.
use Rattle.std.specs.Prelude.{ℕ, ◌+◌, List, [], length, Option}
use Rattle.std.specs.Option.{option_map_or}
use Rattle.dt_blob.specs.Strings.{ended}

-- the bytes: none where it has a place
abbrev pub bytes_added : Option ℕ → List ℕ → List ℕ
bytes_added place name = option_map_or (λ _. []) place (ended name)

-- and how many
abbrev pub count_added : Option ℕ → List ℕ → ℕ
count_added place name = option_map_or (λ _. 0) place (length name + 1)
