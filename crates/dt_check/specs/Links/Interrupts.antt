-- Interrupts (Devicetree Specification v0.4, section 2.4): a node's go to the node that its `interrupt-parent` names or, where it has
-- none, to the next one above that takes interrupts or names another; a parent takes interrupts by `interrupt-controller` or
-- `interrupt-map`, and says by `#interrupt-cells` how many cells each has.
use Rattle.std.specs.Prelude.{ℕ, zero, suc, ◌*◌, Bool, false, not, ◌&&◌, ◌==◌, codes, if◌then◌else◌, List, length, Option, Some, None, option_and_then, Result, Ok, Err}
use Rattle.std.specs.Option.{option_map, option_map_or}
use Rattle.dt_tree.specs.Cell.{cell_in}
use Rattle.dt_check.specs.declared.message.Message.TheVariants.{InterruptLength, BadParent, NoParent, NotAProvider as TakesNone, NoInterruptParent}
use Rattle.dt_check.specs.Buses.{is_provider}
use Rattle.dt_check.specs.Cells.{is_multiple}
use Rattle.dt_check.specs.Fault.{of_node, of_property}
use Rattle.dt_check.specs.Nodes.{PlacedData, node_at, value_at, above_at, place_with}
use Rattle.dt_check.specs.declared.links.interrupts.Way.{Way}
use Rattle.dt_check.specs.declared.links.interrupts.Way.TheVariants.{Found, NotAProvider, NoNode, NoPhandle, Open, Nowhere}
use Rattle.dt_check.specs.Links.Link.{LinkFaultData, at_node}

abbrev pub is_provider_at : List PlacedData → ℕ → Bool
is_provider_at nodes place = option_map_or is_provider (node_at nodes place) false

-- ---- the way to the parent
abbrev pub led_to : List PlacedData → ℕ → Way
led_to nodes place = if is_provider_at nodes place then Found place else NotAProvider place

-- by the value of the `interrupt-parent` of this node
abbrev pub named_parent : List PlacedData → ℕ → List ℕ → Way
named_parent nodes at value =
    option_map_or
    (λ phandle. if phandle == 4294967295 then Open
    else (if phandle == 0 then NoPhandle at else option_map_or (led_to nodes) (place_with nodes phandle) (NoNode at)))
    (cell_in value) (NoPhandle at)

-- where the way ends at a node, if it does
abbrev pub step : List PlacedData → ℕ → ℕ → Option Way
step nodes own at =
    if not (at == own) && is_provider_at nodes at then Some (Found at)
    else option_map (named_parent nodes at) (value_at nodes at (codes "interrupt-parent"))

-- the next node on the way, or where it ends
abbrev pub go_on : Option ℕ → Result ℕ Way
go_on None = Err Nowhere
go_on (Some above) = Ok above

abbrev pub next : List PlacedData → ℕ → ℕ → Result ℕ Way
next nodes own at = option_map_or Err (step nodes own at) (go_on (above_at nodes at))

-- the way over so many levels
abbrev pub or_on : Result ℕ Way → (ℕ → Way) → Way
or_on (Err found) on = found
or_on (Ok above) on = on above

abbrev pub search_from : List PlacedData → ℕ → ℕ → ℕ → Way
search_from nodes own zero at = Nowhere
search_from nodes own (suc levels) at = or_on (next nodes own at) (search_from nodes own levels)

-- more levels than any tree has
unfoldable pub most_levels : ℕ
most_levels = 66

abbrev pub search : List PlacedData → ℕ → Way
search nodes own = search_from nodes own most_levels own

-- ---- what is wrong with the interrupts of a node
abbrev pub lines : List PlacedData → ℕ → Option (List ℕ)
lines nodes own = value_at nodes own (codes "interrupts")

abbrev pub length_fault : List PlacedData → ℕ → Option LinkFaultData
length_fault nodes own =
    option_and_then
    (λ v. if is_multiple (length v) 4 then None
    else Some (at_node own (of_property (codes "interrupts") (InterruptLength (length v) 4))))
    (lines nodes own)

-- of the way that begins at `own`: a node that takes none is told whose interrupts lead there
abbrev pub found_fault : ℕ → Way → Option LinkFaultData
found_fault own (NoPhandle at) = Some (at_node at (of_property (codes "interrupt-parent") BadParent))
found_fault own (NoNode at) = Some (at_node at (of_property (codes "interrupt-parent") NoParent))
found_fault own (NotAProvider place) = Some (at_node place (of_node (TakesNone own)))
found_fault own (Found place) = None
found_fault own Open = None
found_fault own Nowhere = None

abbrev pub search_fault : List PlacedData → ℕ → Option LinkFaultData
search_fault nodes own = option_and_then (λ _. found_fault own (search nodes own)) (lines nodes own)

abbrev pub no_parent : ℕ → Way → Option LinkFaultData
no_parent own (NoPhandle at) = Some (at_node own (of_node NoInterruptParent))
no_parent own Nowhere = Some (at_node own (of_node NoInterruptParent))
no_parent own Open = None
no_parent own (NoNode at) = None
no_parent own (NotAProvider place) = None
no_parent own (Found place) = None

abbrev pub missing_fault : List PlacedData → ℕ → Option LinkFaultData
missing_fault nodes own = option_and_then (λ _. no_parent own (search nodes own)) (lines nodes own)

-- the bytes of a specifier, where the node that the way leads to says so
abbrev pub taker : Way → Option ℕ
taker (Found place) = Some place
taker (NotAProvider place) = Some place
taker (NoNode at) = None
taker (NoPhandle at) = None
taker Open = None
taker Nowhere = None

abbrev pub wanted_bytes : List PlacedData → Way → Option ℕ
wanted_bytes nodes found =
    option_and_then
    (λ place. option_map (λ cells. 4 * cells) (option_and_then cell_in (value_at nodes place (codes "#interrupt-cells"))))
    (taker found)

abbrev pub cells_fault_by : ℕ → ℕ → ℕ → Option LinkFaultData
cells_fault_by bytes wanted own =
    if is_multiple bytes wanted then None
    else Some (at_node own (of_property (codes "#interrupt-cells") (InterruptLength bytes wanted)))

abbrev pub cells_fault : List PlacedData → ℕ → Option LinkFaultData
cells_fault nodes own =
    option_and_then
    (λ v. option_and_then (λ wanted. cells_fault_by (length v) wanted own) (wanted_bytes nodes (search nodes own)))
    (lines nodes own)
