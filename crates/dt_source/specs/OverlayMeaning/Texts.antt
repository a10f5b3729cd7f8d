-- The texts of fixups and symbols: zero-ended strings, paths, decimal offsets (dt-object-internal, section 2).
use Rattle.std.specs.Prelude.{ℕ, ◌+◌, ◌*◌, ◌-◌, ◌==◌, Bool, ◌&&◌, List, [], ◌∷◌, length, Option, Some, None, if◌then◌else◌, nat_le, option_map}
use Rattle.std.specs.List.{list_all, slice_split}
use Rattle.dt_tree.specs.Path.{is_path, path_names}
use Rattle.dt_source.specs.TreeMeaning.Paths.{Path}

-- what stands between the bytes m: always one part more than there are such bytes
abbrev pub parts : ℕ → List ℕ → List (List ℕ)
parts m bytes = slice_split (λ b. b == m) bytes

-- the bytes before a zero byte that is the last
abbrev pub unended : List ℕ → Option (List ℕ)
unended [] = None
unended (b ∷ []) = if b == 0 then Some [] else None
unended (b ∷ c ∷ cs) = option_map (λ bs. b ∷ bs) (unended (c ∷ cs))

abbrev pub path_in : List ℕ → Option Path
path_in text = if is_path text then Some (path_names text) else None

abbrev pub path_of : Option (List ℕ) → Option Path
path_of None = None
path_of (Some text) = path_in text

-- the path in a zero-ended string
abbrev pub ended_path : List ℕ → Option Path
ended_path value = path_of (unended value)

-- the number that digits spell, behind those read so far
abbrev pub read_onto : ℕ → List ℕ → ℕ
read_onto n [] = n
read_onto n (d ∷ ds) = read_onto (n * 10 + (d - 48)) ds

abbrev pub is_digit : ℕ → Bool
is_digit b = nat_le 48 b && nat_le b 57

-- 1 to 10 decimal digits
abbrev pub offset_in : List ℕ → Option ℕ
offset_in ds = if nat_le 1 (length ds) && nat_le (length ds) 10 && list_all is_digit ds then Some (read_onto 0 ds) else None
