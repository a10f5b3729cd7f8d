-- A cell: 32 bits in four bytes, the greatest first (Devicetree Specification v0.4, section 2.2.4).
use Rattle.std.specs.Prelude.{ℕ, ◌==◌, List, Option, Some, None, length, if◌then◌else◌}
use Rattle.std.specs.Int.{from_be_bytes, w32}

abbrev pub cell_in : List ℕ → Option ℕ
cell_in bytes = if length bytes == 4 then Some (from_be_bytes w32 bytes) else None
