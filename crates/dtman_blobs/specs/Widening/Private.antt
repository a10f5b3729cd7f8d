-- Where the blocks of a blob stand, and what is written of them.
use Rattle.std.specs.Prelude.{ℕ, ◌+◌, ◌-◌, ◌≤◌, List, ◌++◌, length, take, drop, replicate}
use Rattle.dt_blob.specs.BigEndian.{word}
use Rattle.dt_blob.specs.HeaderWords.{word_at}

-- the two blocks behind the reservations begin inside the bytes, behind a header
abbrev pub AreInside : List ℕ → Type 0
AreInside bytes = (40 ≤ word_at 8 bytes) × (word_at 8 bytes ≤ length bytes) × (word_at 12 bytes ≤ length bytes)

-- the bytes with so many zeros before the place where the structure block begins, and then up to a size
abbrev pub moved : List ℕ → ℕ → ℕ → ℕ → ℕ → List ℕ
moved bytes structure_at strings_at zeros size =
    take 4 bytes ++ (word size ++ (word (structure_at + zeros) ++ (word (strings_at + zeros) ++ (take (structure_at - 16) (drop 16 bytes)
    ++ (replicate zeros 0 ++ (drop structure_at bytes ++ replicate (size - (length bytes + zeros)) 0))))))
