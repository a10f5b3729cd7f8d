-- Lists of phandles with specifiers (Devicetree Specification v0.4, sections 2.3.3 and 2.5; the bindings of Linux, one of each list):
-- behind each phandle stand as many cells as a property of its node says. An entry may be left empty by 0; one
-- of all ones is left to the base of a plugin, as are those behind it. What is no reference is told, and looked at all the same.
use Rattle.std.specs.Prelude.{ℕ, ◌+◌, ◌-◌, ◌*◌, Bool, true, false, not, ◌||◌, ◌==◌, nat_lt, if◌then◌else◌}
use Rattle.std.specs.Prelude.{List, [], ◌∷◌, ◌++◌, length, Option, Some, None, Result, Ok, Err}
use Rattle.std.specs.Option.{option_map, option_map_or}
use Rattle.dt_tree.specs.declared.property.Property.{Property}
use Rattle.dt_tree.specs.Cell.{cell_in}
use Rattle.dt_check.specs.declared.message.Message.TheVariants.{NotCells, NotAReference, NoNode, NoCells, TooShort}
use Rattle.dt_check.specs.Cells.{cells_of, is_multiple}
use Rattle.dt_check.specs.Fault.{FaultData, of_node, of_property}
use Rattle.dt_check.specs.Nodes.{PlacedData, value_at, place_with}

-- the property that says how many cells follow, and whether none do where the node hasn't it
pub record ListingData : Type 0 where
  pub cells : List ℕ
  pub optional : Bool

abbrev pub is_no_phandle : ℕ → Bool
is_no_phandle cell = cell == 0 || cell == 4294967295

-- how many cells follow a phandle of this node
abbrev pub cells_behind : List PlacedData → ListingData → ℕ → Option ℕ
cells_behind nodes l place = option_map_or cell_in (value_at nodes place l.cells) (if l.optional then Some 0 else None)

-- an entry, by the number of the cell of its phandle and how many cells are left behind it
abbrev pub enough : Property → ℕ → ℕ → Result ℕ FaultData
enough p left cells =
    if nat_lt left cells then Err (of_property p.name (TooShort (length p.value) cells)) else Ok cells

abbrev pub entry_to : List PlacedData → ListingData → Property → ℕ → ℕ → ℕ → Result ℕ FaultData
entry_to nodes l p cell left place = option_map_or (enough p left) (cells_behind nodes l place) (Err (of_node (NoCells place cell)))

abbrev pub entry : List PlacedData → ListingData → Property → ℕ → ℕ → ℕ → Result ℕ FaultData
entry nodes l p cell left number =
    if is_no_phandle number then Ok 0
    else option_map_or (entry_to nodes l p cell left) (place_with nodes number) (Err (of_property p.name (NoNode cell)))

-- ---- references
-- In a source a phandle wants to be a reference (dtc 1.6.1, tried by hand): of a value these stand at so many bytes, in order.
-- Those that don't stand before this byte:
abbrev pub from_byte : ℕ → List ℕ → List ℕ
from_byte byte [] = []
from_byte byte (at ∷ more) = if nat_lt at byte then from_byte byte more else at ∷ more

-- those that don't stand before this cell: none are known of a tree without a source
abbrev pub from_cell : ℕ → Option (List ℕ) → Option (List ℕ)
from_cell cell references = option_map (from_byte (4 * cell)) references

abbrev pub begins_at : ℕ → List ℕ → Bool
begins_at byte [] = false
begins_at byte (at ∷ more) = at == byte

-- whether this cell is one, by those that don't stand before it
abbrev pub is_reference : ℕ → Option (List ℕ) → Bool
is_reference cell references = option_map_or (begins_at (4 * cell)) references true

abbrev pub no_reference : Option (List ℕ) → Property → ℕ → ℕ → List FaultData
no_reference references p cell number =
    if is_no_phandle number || is_reference cell references then [] else of_property p.name (NotAReference cell) ∷ []

-- ---- the list
abbrev pub faults_or : Result ℕ FaultData → (ℕ → List FaultData) → List FaultData
faults_or (Err f) next = f ∷ []
faults_or (Ok cells) next = next cells

-- the faults of these cells, of which so many at the front still belong to the entry before; the first of them has this number
abbrev pub entries_faults : List PlacedData → ListingData → Option (List ℕ) → Property → ℕ → ℕ → List ℕ → List FaultData
entries_faults nodes l references p skipped cell [] = []
entries_faults nodes l references p skipped cell (number ∷ more) =
    if skipped == 0
    then (if number == 4294967295 then []
    else no_reference (from_cell cell references) p cell number
    ++ faults_or (entry nodes l p cell (length more) number)
    (λ cells. entries_faults nodes l (from_cell cell references) p cells (cell + 1) more))
    else entries_faults nodes l references p (skipped - 1) (cell + 1) more

abbrev pub list_faults : List PlacedData → ListingData → Option (List ℕ) → Property → List FaultData
list_faults nodes l references p =
    if not (is_multiple (length p.value) 4) then of_property p.name (NotCells (length p.value)) ∷ []
    else entries_faults nodes l references p 0 0 (cells_of p.value)
