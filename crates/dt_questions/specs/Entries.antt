-- The entries of a value (Devicetree Specification v0.4, sections 2.3.3, 2.4.1 and 2.4.3), by what they are made of (`Shapes`). An entry may be
-- left empty by a phandle of 0 or of all ones. One that leads nowhere, or for which too few bytes are left, ends the list.
use Rattle.std.specs.Prelude.{ℕ, zero, suc, ◌+◌, ◌*◌, ◌==◌, nat_le, codes, if◌then◌else◌, List, [], ◌∷◌, ◌++◌, length, take, drop, Option, Some, None, unwrap_or, option_and_then}
use Rattle.std.specs.Option.{option_map_or}
use Rattle.dt_check.specs.Cells.{cell_from}
use Rattle.dt_check.specs.Links.Lists.{is_no_phandle}
use Rattle.dt_check.specs.Nodes.{PlacedData, place_with}
use Rattle.dt_questions.specs.Mention.{MentionData}
use Rattle.dt_questions.specs.Nodes.{cells_at}
use Rattle.dt_questions.specs.Shapes.{ShapeData, counted, bare, mapped, nexus, lines}

-- the node that an entry names, none where it is left empty, the bytes of its specifier, and those behind it
pub record EntryData : Type 0 where
  pub node : Option ℕ
  pub cells : List ℕ
  pub rest : List ℕ

abbrev pub cells_before : ShapeData → ℕ
cells_before (counted name) = 0
cells_before bare = 0
cells_before mapped = 1
cells_before (nexus address specifier) = address + specifier
cells_before (lines parent cells) = 0

-- between the phandle of a node and the specifier: the unit address of an interrupt at its parent
abbrev pub between : List PlacedData → ShapeData → ℕ → ℕ
between nodes (counted name) node = 0
between nodes bare node = 0
between nodes mapped node = 0
between nodes (nexus address specifier) node = unwrap_or (cells_at nodes node (codes "#address-cells")) 0
between nodes (lines parent cells) node = 0

-- the cells of a specifier for a node
abbrev pub behind : List PlacedData → ShapeData → ℕ → Option ℕ
behind nodes (counted name) node = cells_at nodes node name
behind nodes bare node = Some 0
behind nodes mapped node = Some 2
behind nodes (nexus address specifier) node = cells_at nodes node (codes "#interrupt-cells")
behind nodes (lines parent cells) node = Some cells

-- an entry for a node, by the bytes behind its phandle: so many are passed over, so many are its specifier
abbrev pub part : ℕ → ℕ → ℕ → List ℕ → Option EntryData
part node over count bytes =
    if nat_le (over + count) (length bytes)
    then Some (record { node = Some node; cells = take count (drop over bytes); rest = drop (over + count) bytes }) else None

abbrev pub entry_of : List PlacedData → ShapeData → ℕ → List ℕ → Option EntryData
entry_of nodes shape node bytes = option_and_then (λ count. part node (4 * between nodes shape node) (4 * count) bytes) (behind nodes shape node)

abbrev pub entry_with : List PlacedData → ShapeData → ℕ → List ℕ → Option EntryData
entry_with nodes shape phandle bytes =
    if is_no_phandle phandle then Some (record { node = None; cells = []; rest = bytes })
    else option_and_then (λ node. entry_of nodes shape node bytes) (place_with nodes phandle)

-- so many cells, and at least one, for a node
abbrev pub line_of : ℕ → ℕ → List ℕ → Option EntryData
line_of parent cells value = if cells == 0 then None else part parent 0 (4 * cells) value

abbrev pub named_entry : List PlacedData → ShapeData → List ℕ → Option EntryData
named_entry nodes shape value =
    option_and_then (λ phandle. entry_with nodes shape phandle (drop (4 * cells_before shape + 4) value)) (cell_from (4 * cells_before shape) value)

abbrev pub first_entry : List PlacedData → ShapeData → List ℕ → Option EntryData
first_entry nodes (lines parent cells) value = line_of parent cells value
first_entry nodes (counted name) value = named_entry nodes (counted name) value
first_entry nodes bare value = named_entry nodes bare value
first_entry nodes mapped value = named_entry nodes mapped value
first_entry nodes (nexus address specifier) value = named_entry nodes (nexus address specifier) value

-- what an entry of this number names
abbrev pub mentioned : ℕ → List ℕ → ℕ → EntryData → List MentionData
mentioned user property number e =
    option_map_or (λ node. record { user = user; property = property; entry = number; node = node; cells = e.cells } ∷ []) e.node []

-- what so many entries name, the first of which has this number
abbrev pub entries_within : List PlacedData → ShapeData → ℕ → List ℕ → ℕ → ℕ → List ℕ → List MentionData
entries_within nodes shape user property number zero value = []
entries_within nodes shape user property number (suc left) value =
    option_map_or (λ e. mentioned user property number e ++ entries_within nodes shape user property (number + 1) left e.rest) (first_entry nodes shape value) []

-- all of them: there aren't more than bytes
abbrev pub entries : List PlacedData → ShapeData → ℕ → List ℕ → List ℕ → List MentionData
entries nodes shape user property value = entries_within nodes shape user property 0 (length value) value
