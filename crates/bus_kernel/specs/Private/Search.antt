-- What the search for tables knows of a place.
use Rattle.std.specs.Prelude.{◌≡◌, ℕ, ◌+◌, ◌-◌, ◌*◌, ◌<◌, ◌≤◌, true, IsSome, List, [], ◌∷◌, drop, Some, None}
use Rattle.bus_kernel.specs.Tables.Entry.{entry_string, is_empty_entry}
use Rattle.bus_kernel.specs.Tables.Tables.{HasNone, entry_size, is_telling}

-- entries with these strings follow one another, and no further one; this stands behind them
abbrev pub Runs : ℕ → List ℕ → List (List ℕ) → List ℕ → Type 0
Runs size bytes [] behind = (behind ≡ bytes) × (entry_string bytes ≡ None)
Runs size bytes (string ∷ strings) behind = (entry_string bytes ≡ Some string) × Runs size (drop size bytes) strings behind

-- a table of these strings, with its empty entry behind them
pub record IsTableBefore (size : ℕ) (bytes : List ℕ) (strings : List (List ℕ)) (behind : List ℕ) : Type 0 where
  pub runs : Runs size bytes strings behind
  pub ends : is_empty_entry behind ≡ true
  pub telling : is_telling strings ≡ true

-- a place is words behind another one, and no table stands between
pub record HasNoneBefore (width : ℕ) (image : List ℕ) (behind at : ℕ) : Type 0 where
  pub words : ℕ
  pub stands : at ≡ behind + width * words
  pub none : (k : ℕ) → k < words → HasNone (entry_size width) image (behind + width * k)

-- an entry stands before a place, and not before another one
pub record IsWithin (size : ℕ) (image : List ℕ) (behind at : ℕ) : Type 0 where
  pub room : behind + size ≤ at
  pub entry : IsSome (entry_string (drop (at - size) image))
