-- The bytes of the reserved memory: Devicetree Specification v0.4, section 5.3.
use Rattle.std.specs.Prelude.{ℕ, ◌+◌, ◌*◌, List, length}

-- an address and a size of eight bytes each, and a pair of zeros at the end
abbrev pub reserved_size : List (ℕ × ℕ) → ℕ
reserved_size rs = 16 * (length rs + 1)
