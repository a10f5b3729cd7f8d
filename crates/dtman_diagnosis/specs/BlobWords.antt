-- The words of a blob: 32 bits each, the greatest byte first, on multiples of four bytes (Devicetree Specification v0.4,
-- sections 5.2 and 5.4).
use Rattle.std.specs.Prelude.{ℕ, ◌≡◌, ◌+◌, ◌%◌, ◌≤◌, nat_le, List, length, take, drop, Option, Some, None, if◌then◌else◌}
use Rattle.std.specs.Int.{from_be_bytes, w32}

-- the word at an offset
abbrev pub word_at : List ℕ → ℕ → ℕ
word_at bytes offset = from_be_bytes w32 (take 4 (drop offset bytes))

-- the word at an offset, where the file has all of it
abbrev pub word_in : List ℕ → ℕ → Option ℕ
word_in bytes offset = if nat_le (offset + 4) (length bytes) then Some (word_at bytes offset) else None

-- The offset lies in the file or at its end, on a word, and the word that is told is the one that stands there.
pub record IsPlace (bytes : List ℕ) (offset : ℕ) (found : Option ℕ) : Type 0 where
  pub inside : offset ≤ length bytes
  pub aligned : offset % 4 ≡ 0
  pub word : found ≡ word_in bytes offset
