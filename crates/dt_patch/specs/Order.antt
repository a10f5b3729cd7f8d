-- The order of a blob's blocks: Devicetree Specification v0.4, section 5.1, figure 5.1.
use Rattle.std.specs.Prelude.{ℕ, ◌+◌, Bool, false, ◌&&◌, nat_le, List}
use Rattle.std.specs.Option.{option_map_or}
use Rattle.dt_blob.specs.Format.{header_size}
use Rattle.dt_blob.specs.HeaderWords.{header_of}

-- the reserved memory, of so many bytes, stands behind the header, behind it the structure block, and behind that the strings; the
-- version tells the structure block's size
abbrev pub is_ordered : List ℕ → ℕ → Bool
is_ordered bytes reserved =
    let h = header_of bytes in
    option_map_or (λ size. nat_le header_size h.reserves_at && nat_le (h.reserves_at + reserved) h.structure_at && nat_le (h.structure_at + size) h.strings_at)
    h.structure_size false
