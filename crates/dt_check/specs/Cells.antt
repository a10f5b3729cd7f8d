-- How many cells addresses and sizes have (Devicetree Specification v0.4, section 2.3.5): those of a node's children are said by its
-- `#address-cells` and `#size-cells`, and are 2 and 1 where it doesn't say.
use Rattle.std.specs.Prelude.{ℕ, ◌%◌, Bool, ◌==◌, codes, if◌then◌else◌, List, [], ◌∷◌, length, Option, Some, None, is_some, nat_le, ◌+◌, option_and_then, unwrap_or, take, drop}
use Rattle.std.specs.Int.{from_be_bytes, w32}
use Rattle.dt_tree.specs.declared.property.Property.{Property}
use Rattle.dt_tree.specs.Cell.{cell_in}
use Rattle.dt_tree.specs.PathMap.{value_of}

abbrev pub has : List Property → List ℕ → Bool
has ps name = is_some (value_of ps name)

-- the number in the property of this name, or this one
abbrev pub number_of : List Property → List ℕ → ℕ → ℕ
number_of ps name otherwise = unwrap_or (option_and_then cell_in (value_of ps name)) otherwise

abbrev pub address_cells : List Property → ℕ
address_cells ps = number_of ps (codes "#address-cells") 2

abbrev pub size_cells : List Property → ℕ
size_cells ps = number_of ps (codes "#size-cells") 1

-- a length is made of parts: of parts of no bytes only where it has none
abbrev pub is_multiple : ℕ → ℕ → Bool
is_multiple length part = if part == 0 then length == 0 else length % part == 0

-- the cell at this offset, where there is one
abbrev pub cell_from : ℕ → List ℕ → Option ℕ
cell_from offset v = if nat_le (offset + 4) (length v) then Some (from_be_bytes w32 (take 4 (drop offset v))) else None

-- the cells of a value
abbrev pub cells_of : List ℕ → List ℕ
cells_of (a ∷ b ∷ c ∷ d ∷ more) = from_be_bytes w32 (a ∷ b ∷ c ∷ d ∷ []) ∷ cells_of more
cells_of _ = []
