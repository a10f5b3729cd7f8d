-- Which nodes a device's properties name: what their bindings list, entry by entry. An entry that is malformed or leads nowhere ends
-- its property's list and is a fault; so does, without a fault, one that is left empty (0), where its binding allows none.
use Rattle.std.specs.Prelude.{ℕ, zero, suc, ◌+◌, ◌-◌, ◌*◌, Bool, true, false, not, ◌&&◌, ◌||◌, ◌==◌, nat_le, codes, if◌then◌else◌, List, [], ◌∷◌, ◌++◌, length, take, drop, Option, Some, None, option_and_then}
use Rattle.std.specs.Option.{option_map, option_map_or}
use Rattle.std.specs.Str.{bytes_eq}
use Rattle.dt_tree.specs.declared.property.Property.{Property}
use Rattle.dt_tree.specs.Cell.{cell_in}
use Rattle.bus_links.specs.Bindings.Bindings.{Listing, counted, sparse, bare, mapped, controllers, lines, Binding, binding_of}
use Rattle.bus_links.specs.Bindings.Interrupts.{has, number_in, interrupt_parent, controller_of}
use Rattle.bus_links.specs.Bindings.LinkNodes.{LinkNode, node_at, place_with, is_power}

-- this entry of this property names the node at this place
pub record MentionData : Type 0 where
  pub property : List ℕ
  pub entry : ℕ
  pub node : ℕ

-- this entry of this property is malformed or leads nowhere
pub record FaultData : Type 0 where
  pub property : List ℕ
  pub entry : ℕ

pub record FoundData : Type 0 where
  pub mentions : List MentionData
  pub faults : List FaultData

abbrev pub nothing : FoundData
nothing = record { mentions = []; faults = [] }

abbrev pub and_then : FoundData → FoundData → FoundData
and_then f g = record { mentions = f.mentions ++ g.mentions; faults = f.faults ++ g.faults }

abbrev pub mentioned : List ℕ → ℕ → ℕ → FoundData
mentioned property entry node = record { mentions = record { property = property; entry = entry; node = node } ∷ []; faults = [] }

abbrev pub fault : List ℕ → ℕ → FoundData
fault property entry = record { mentions = []; faults = record { property = property; entry = entry } ∷ [] }

-- ---- a list of entries
-- how many cells stand behind a phandle that leads to this node
abbrev pub cells_behind : Listing → List LinkNode → ℕ → Option ℕ
cells_behind (counted name) nodes node = number_in nodes node name
cells_behind (sparse name) nodes node = number_in nodes node name
cells_behind controllers nodes node = number_in nodes node (codes "#interrupt-cells")
cells_behind mapped nodes node = Some 2
cells_behind bare nodes node = Some 0
cells_behind lines nodes node = Some 0

-- the node that an entry of this node means, with these bytes of its own behind the phandle
abbrev pub meant : Listing → List LinkNode → ℕ → ℕ → List ℕ → Option ℕ
meant controllers nodes own node bytes = controller_of nodes own node bytes
meant (counted name) nodes own node bytes = Some node
meant (sparse name) nodes own node bytes = Some node
meant bare nodes own node bytes = Some node
meant mapped nodes own node bytes = Some node
meant lines nodes own node bytes = Some node

-- the cells before each phandle
abbrev pub cells_before : Listing → ℕ
cells_before mapped = 1
cells_before (counted name) = 0
cells_before (sparse name) = 0
cells_before bare = 0
cells_before controllers = 0
cells_before lines = 0

-- an entry that is left empty is passed over
abbrev pub goes_on : Listing → Bool
goes_on (sparse name) = true
goes_on (counted name) = false
goes_on bare = false
goes_on mapped = false
goes_on controllers = false
goes_on lines = false

-- an entry whose phandle leads to this node, with these bytes left behind it: the node that it means, and how many cells are its own
pub record EntryData : Type 0 where
  pub node : ℕ
  pub cells : ℕ

abbrev pub entry_with : Listing → List LinkNode → ℕ → List ℕ → ℕ → ℕ → Option EntryData
entry_with listing nodes own behind node cells =
    if nat_le (4 * cells) (length behind)
    then option_map (λ m. record { node = m; cells = cells }) (meant listing nodes own node (take (4 * cells) behind)) else None

abbrev pub entry_at : Listing → List LinkNode → ℕ → List ℕ → Option ℕ → Option EntryData
entry_at listing nodes own behind None = None
entry_at listing nodes own behind (Some node) = option_and_then (entry_with listing nodes own behind node) (cells_behind listing nodes node)

-- what so many cells of a value name; so many at its front still belong to the entry before
abbrev pub found_within : List LinkNode → ℕ → Listing → List ℕ → ℕ → ℕ → ℕ → List ℕ → FoundData
found_within nodes own listing property entry skipped zero value = nothing
found_within nodes own listing property entry skipped (suc left) value =
    option_map_or
    (λ phandle.
    if skipped == 0
    then (if phandle == 0 then (if goes_on listing then found_within nodes own listing property (entry + 1) skipped left (drop 4 value) else nothing)
    else option_map_or
    (λ e. and_then (mentioned property entry e.node) (found_within nodes own listing property (entry + 1) (e.cells + cells_before listing) left (drop 4 value)))
    (entry_at listing nodes own (drop 4 value) (place_with nodes phandle)) (fault property entry))
    else found_within nodes own listing property entry (skipped - 1) left (drop 4 value))
    (cell_in (take 4 value)) nothing

abbrev pub found_in : List LinkNode → ℕ → Listing → List ℕ → ℕ → List ℕ → FoundData
found_in nodes own listing property skipped value = found_within nodes own listing property 0 skipped (length value) value

-- ---- properties
-- what `interrupts` names, specifier by specifier of so many bytes at the interrupt parent: the controller of each, until one has none
abbrev pub lines_within : List LinkNode → List ℕ → ℕ → ℕ → ℕ → ℕ → ℕ → List ℕ → FoundData
lines_within nodes property own parent width entry zero value = nothing
lines_within nodes property own parent width entry (suc left) value =
    if length value == 0 then nothing
    else (if nat_le width (length value)
    then option_map_or (λ c. and_then (mentioned property entry c) (lines_within nodes property own parent width (entry + 1) left (drop width value)))
    (controller_of nodes own parent (take width value)) (fault property entry)
    else fault property entry)

-- a specifier has one cell at least
abbrev pub lines_at : List LinkNode → List ℕ → ℕ → List ℕ → ℕ → ℕ → FoundData
lines_at nodes property own value parent cells =
    if cells == 0 then fault property 0 else lines_within nodes property own parent (4 * cells) 0 (length value) value

abbrev pub lines_from : List LinkNode → List ℕ → ℕ → List ℕ → ℕ → FoundData
lines_from nodes property own value parent =
    option_map_or (lines_at nodes property own value parent) (number_in nodes parent (codes "#interrupt-cells")) (fault property 0)

abbrev pub found_lines : List LinkNode → List ℕ → ℕ → List ℕ → FoundData
found_lines nodes property own value = option_map_or (lines_from nodes property own value) (interrupt_parent nodes own) (fault property 0)

abbrev pub found_listed : List LinkNode → ℕ → Listing → Property → FoundData
found_listed nodes own lines p = found_lines nodes p.name own p.value
found_listed nodes own (counted name) p = found_in nodes own (counted name) p.name 0 p.value
found_listed nodes own bare p = found_in nodes own bare p.name 0 p.value
found_listed nodes own (sparse name) p = found_in nodes own (sparse name) p.name 0 p.value
found_listed nodes own mapped p = found_in nodes own mapped p.name 1 p.value
found_listed nodes own controllers p = found_in nodes own controllers p.name 0 p.value

-- `interrupts-extended` stands over `interrupts`
abbrev pub is_passed_over : List LinkNode → ℕ → List ℕ → Bool
is_passed_over nodes own name = bytes_eq name (codes "interrupts") && has nodes own (codes "interrupts-extended")

abbrev pub counts : Bool → Binding → Bool
counts strict b = not b.optional || strict

-- PowerPC makes no links by interrupts (`parse_interrupts`)
abbrev pub is_interrupt : Listing → Bool
is_interrupt controllers = true
is_interrupt lines = true
is_interrupt (counted name) = false
is_interrupt (sparse name) = false
is_interrupt bare = false
is_interrupt mapped = false

abbrev pub counts_in : List LinkNode → Bool → Binding → Bool
counts_in nodes strict b = counts strict b && not (is_power nodes && is_interrupt b.listing)

abbrev pub found_by : List LinkNode → Bool → ℕ → Property → FoundData
found_by nodes strict own p =
    if is_passed_over nodes own p.name then nothing
    else option_map_or (λ b. if counts_in nodes strict b then found_listed nodes own b.listing p else nothing) (binding_of p.name) nothing

-- those of all properties, in order
abbrev pub found_among : List LinkNode → Bool → ℕ → List Property → FoundData
found_among nodes strict own [] = nothing
found_among nodes strict own (p ∷ ps) = and_then (found_by nodes strict own p) (found_among nodes strict own ps)

-- what the properties of the node at this place name
abbrev pub found_at : List LinkNode → Bool → ℕ → FoundData
found_at nodes strict own = found_among nodes strict own (node_at nodes own).properties
