-- Lists of devices in one block, and how a device is put behind the lists of its suppliers.
use Rattle.std.specs.Prelude.{◌≡◌, ℕ, ◌+◌, ◌-◌, ◌<◌, ◌≤◌, ◌==◌, if◌then◌else◌, List, [], ◌∷◌, ◌++◌, length, map, slice_index, slice_range}
use Rattle.std.specs.List.{list_any, range_with_len, slice_index_or}

-- a list goes from where it begins to where the next one does
abbrev pub list_at : List ℕ → List ℕ → ℕ → List ℕ
list_at starts block i = slice_range block (slice_index starts i) (slice_index starts (i + 1))

abbrev pub lists_in : List ℕ → List ℕ → List (List ℕ)
lists_in starts block = map (list_at starts block) (range_with_len 0 (length starts - 1))

-- no list goes past the block
pub record IsCut (starts block : List ℕ) : Type 0 where
  pub ordered : (i : ℕ) → i + 1 < length starts → slice_index starts i ≤ slice_index starts (i + 1)
  pub within : (i : ℕ) → i < length starts → slice_index starts i ≤ length block

-- what a device's list gets where it is one of these suppliers
abbrev pub added : ℕ → List ℕ → ℕ → List ℕ
added consumer suppliers d = if list_any (λ s. s == d) suppliers then consumer ∷ [] else []

-- the consumer is put behind the list of each of its suppliers, and nowhere else
pub record IsAdded (old new : List (List ℕ)) (consumer : ℕ) (suppliers : List ℕ) : Type 0 where
  pub count : length new ≡ length old
  pub lists : (d : ℕ) → d < length old → slice_index_or new d [] ≡ slice_index_or old d [] ++ added consumer suppliers d
