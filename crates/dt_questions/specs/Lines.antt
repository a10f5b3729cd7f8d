-- Which line of a node a specifier means: its first cell (Devicetree Specification v0.4, sections 2.4.1 and 2.5; the bindings of Linux), but at
-- a GIC (binding arm,gic and arm,gic-v3 of Linux) the number of the interrupt, by its type and its number among those of this type.
use Rattle.std.specs.Prelude.{ℕ, ◌+◌, ◌-◌, Bool, false, not, ◌&&◌, ◌||◌, ◌==◌, nat_lt, nat_le, codes, if◌then◌else◌, List, length, take, Option, Some, unwrap_or}
use Rattle.std.specs.Option.{option_map_or}
use Rattle.std.specs.Str.{bytes_eq}
use Rattle.dt_tree.specs.PhandleProperties.Table.{Listing, counted, sparse, bare, single, endpoint, mapped, controllers, lines, values, row_of}
use Rattle.dt_check.specs.Cells.{cell_from}
use Rattle.dt_check.specs.Nodes.{PlacedData}
use Rattle.dt_questions.specs.Mention.{MentionData}
use Rattle.dt_questions.specs.Nodes.{has_string_at, is_used}

abbrev pub is_one_of : List PlacedData → ℕ → List ℕ → Bool
is_one_of nodes place string = has_string_at nodes place (codes "compatible") string

abbrev pub is_gic : List PlacedData → ℕ → Bool
is_gic nodes place =
    is_one_of nodes place (codes "arm,gic-v3") || is_one_of nodes place (codes "arm,gic-400") || is_one_of nodes place (codes "arm,cortex-a15-gic")
    || is_one_of nodes place (codes "arm,cortex-a9-gic") || is_one_of nodes place (codes "arm,cortex-a7-gic")
    || is_one_of nodes place (codes "arm,cortex-a5-gic") || is_one_of nodes place (codes "arm,pl390") || is_one_of nodes place (codes "qcom,msm-qgic2")

-- shared interrupts begin at 32, those of a processor at 16, extended ones at 4096 and 1056
abbrev pub gic_base : ℕ → ℕ
gic_base kind =
    if kind == 0 then 32 else (if kind == 1 then 16 else (if kind == 2 then 4096 else (if kind == 3 then 1056 else 0)))

abbrev pub first_of : ℕ → List ℕ → ℕ
first_of offset cells = unwrap_or (cell_from offset cells) 0

abbrev pub line_of : List PlacedData → MentionData → Option ℕ
line_of nodes m =
    if nat_le 12 (length m.cells) && is_gic nodes m.node then Some (gic_base (first_of 0 m.cells) + first_of 4 m.cells) else cell_from 0 m.cells

-- those without a line stand before all others
abbrev pub order_of : List PlacedData → MentionData → ℕ
order_of nodes m = option_map_or (λ line. line + 1) (line_of nodes m) 0

abbrev pub is_interrupt : List ℕ → Bool
is_interrupt name = bytes_eq name (codes "interrupts") || bytes_eq name (codes "interrupts-extended") || bytes_eq name (codes "interrupt-map")

abbrev pub lists_pins : Listing → Bool
lists_pins (counted cells) = bytes_eq cells (codes "#gpio-cells")
lists_pins (sparse cells) = false
lists_pins bare = false
lists_pins single = false
lists_pins endpoint = false
lists_pins mapped = false
lists_pins controllers = false
lists_pins lines = false

abbrev pub is_gpio : List ℕ → Bool
is_gpio name = option_map_or (λ row. lists_pins row.listing) (row_of values name) false

-- a pin is said by all cells but the last, its flags
abbrev pub pin_of : List ℕ → List ℕ
pin_of cells = if nat_lt (length cells) 8 then cells else take (length cells - 4) cells

-- two specifiers of interrupts, or two of pins but for their flags
abbrev pub is_same_line : MentionData → MentionData → Bool
is_same_line m o =
    if is_interrupt m.property then is_interrupt o.property && bytes_eq m.cells o.cells
    else is_gpio m.property && is_gpio o.property && bytes_eq (pin_of m.cells) (pin_of o.cells)

-- two nodes that are used mean one line of one node
abbrev pub shares : List PlacedData → MentionData → MentionData → Bool
shares nodes m o = m.node == o.node && not (m.user == o.user) && is_same_line m o && is_used nodes m.user && is_used nodes o.user
