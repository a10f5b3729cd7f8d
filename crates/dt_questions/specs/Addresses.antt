-- Where an address of a bus lies for the processors (Devicetree Specification v0.4, section 2.3.8): a bus whose `ranges` has no rows hands an
-- address on as it is, one with rows moves what lies in the first row that has it, and one without the property hands on none. Cells by
-- section 2.3.5. Numbers of more than two cells are no addresses of memory.
use Rattle.std.specs.Prelude.{ℕ, zero, suc, ◌+◌, ◌-◌, ◌*◌, ◌&&◌, ◌==◌, nat_le, nat_lt, codes, if◌then◌else◌, List, drop, length, Option, Some, None, unwrap_or, option_and_then}
use Rattle.std.specs.Option.{option_map, option_map_or}
use Rattle.dt_tree.specs.Phandle.{or_else}
use Rattle.dt_check.specs.Cells.{cell_from}
use Rattle.dt_check.specs.Nodes.{PlacedData, above_at, value_at}
use Rattle.dt_questions.specs.Nodes.{cells_at}
use Rattle.dt_questions.specs.Paths.{most_levels}

-- the cells of addresses and sizes below a node
abbrev pub address_at : List PlacedData → ℕ → ℕ
address_at nodes place = unwrap_or (cells_at nodes place (codes "#address-cells")) 2

abbrev pub size_at : List PlacedData → ℕ → ℕ
size_at nodes place = unwrap_or (cells_at nodes place (codes "#size-cells")) 1

abbrev pub pair_in : List ℕ → Option ℕ
pair_in bytes = option_and_then (λ high. option_map (λ low. high * 4294967296 + low) (cell_from 4 bytes)) (cell_from 0 bytes)

-- the number of so many cells in front
abbrev pub number_in : ℕ → List ℕ → Option ℕ
number_in cells bytes = if cells == 1 then cell_from 0 bytes else (if cells == 2 then pair_in bytes else None)

-- addresses have 64 bits
abbrev pub as_address : ℕ → Option ℕ
as_address number = if nat_lt number 18446744073709551616 then Some number else None

-- so many bytes from `child` on lie at `parent` on the bus above
pub record WindowData : Type 0 where
  pub child : ℕ
  pub parent : ℕ
  pub size : ℕ

-- how many cells the parts of a row have
pub record RowCells : Type 0 where
  pub child : ℕ
  pub parent : ℕ
  pub size : ℕ

abbrev pub row_len : RowCells → ℕ
row_len c = 4 * (c.child + c.parent + c.size)

abbrev pub window_in : RowCells → List ℕ → Option WindowData
window_in c row =
    option_and_then (λ child. option_and_then (λ parent. option_map (λ size. record { child = child; parent = parent; size = size })
    (number_in c.size (drop (4 * (c.child + c.parent)) row))) (number_in c.parent (drop (4 * c.child) row))) (number_in c.child row)

abbrev pub moved : WindowData → ℕ → Option ℕ
moved w address =
    if nat_le w.child address && nat_lt (address - w.child) w.size then as_address (w.parent + (address - w.child)) else None

-- by the first of so many rows that has the address
abbrev pub moved_within : RowCells → ℕ → List ℕ → ℕ → Option ℕ
moved_within c zero rows address = None
moved_within c (suc left) rows address =
    option_and_then (λ w. or_else (moved w address) (moved_within c left (drop (row_len c) rows) address)) (window_in c rows)

-- rows behind these aren't looked at, so that an answer takes no longer than its tree
unfoldable pub most_rows : ℕ
most_rows = 256

abbrev pub cells_between : List PlacedData → ℕ → ℕ → RowCells
cells_between nodes bus above = record { child = address_at nodes bus; parent = address_at nodes above; size = size_at nodes bus }

abbrev pub through : List PlacedData → ℕ → ℕ → List ℕ → ℕ → Option ℕ
through nodes bus above rows address = if length rows == 0 then Some address else moved_within (cells_between nodes bus above) most_rows rows address

-- on the bus above
abbrev pub lifted : List PlacedData → ℕ → ℕ → ℕ → Option ℕ
lifted nodes bus above address = option_and_then (λ rows. through nodes bus above rows address) (value_at nodes bus (codes "ranges"))

-- over so many buses, up to the root
abbrev pub raised_within : List PlacedData → ℕ → ℕ → ℕ → Option ℕ
raised_within nodes zero bus address = None
raised_within nodes (suc levels) bus address =
    option_map_or (λ above. option_and_then (raised_within nodes levels above) (lifted nodes bus above address)) (above_at nodes bus) (Some address)

abbrev pub raised : List PlacedData → ℕ → ℕ → Option ℕ
raised nodes bus address = raised_within nodes most_levels bus address
