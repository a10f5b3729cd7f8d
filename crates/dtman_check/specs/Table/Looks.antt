-- What a check looks for: in which nodes, properties or lists, and what is a mistake there, one rule after the other (dtc 1.6.1, checks.c).
use Rattle.std.specs.Prelude.{ℕ, Bool, true, false, not, ◌||◌, ◌==◌, length, codes, List, Option, Some}
use Rattle.std.specs.Str.{bytes_eq}
use Rattle.dt_tree.specs.NodeData.{nodes_of}
use Rattle.dt_tree.specs.declared.property.Property.{Property}
use Rattle.dt_check.specs.declared.message.Message.TheVariants.{Always}
use Rattle.dt_check.specs.Cells.{has}
use Rattle.dt_check.specs.Chosen.{is_gpio, is_named}
use Rattle.dt_check.specs.Fault.{FaultData, of_node}
use Rattle.dt_check.specs.Nodes.{PlacedData, HereData}
use Rattle.dt_check.specs.UnitRules.{has_unit}
use Rattle.dt_check.specs.Links.Link.{LinkFaultData}
use Rattle.dt_check.specs.Links.Lists.{ListingData}
use Rattle.dt_check.specs.Links.Phandles.{twice_fault}
use Rattle.dtman_check.specs.declared.table.units.Counted.{Counted}
use Rattle.dtman_check.specs.Table.Rules.{near_here}

-- nothing that a tree can have; nodes side by side with one unit address; properties that no reference set has; in each of these nodes,
-- in each property, or in each of these nodes and those that it leads to, by these rules; in the lists of these names, where a node
-- looks at them; in each alias
pub data Looks : Type 0 where
  nothing : Looks
  units : Counted → Looks
  unknown : Looks
  by_node : (HereData → Bool) → List (HereData → Option FaultData) → Looks
  by_property : (Property → Option FaultData) → Looks
  by_links : (HereData → Bool) → List (List PlacedData → HereData → ℕ → Option LinkFaultData) → Looks
  by_lists : (List ℕ → Bool) → (HereData → Bool) → ListingData → Looks
  aliases : Looks

-- ---- nodes
abbrev pub anywhere : HereData → Bool
anywhere here = true

abbrev pub having : List ℕ → HereData → Bool
having name here = has here.node.properties name

abbrev pub having_either : List ℕ → List ℕ → HereData → Bool
having_either name other here = has here.node.properties name || has here.node.properties other

abbrev pub called : List ℕ → HereData → Bool
called name here = is_named name here.node

abbrev pub parents : HereData → Bool
parents here = not (length (nodes_of here.node.children) == 0)

abbrev pub addressed : HereData → Bool
addressed here = has_unit here.node

-- ---- rules
-- of the node itself, of what its place leads to, and of others with its phandle
abbrev pub own : (HereData → Option FaultData) → List PlacedData → HereData → ℕ → Option LinkFaultData
own fault nodes here place = near_here place (fault here)

abbrev pub led_to : (List PlacedData → ℕ → Option LinkFaultData) → List PlacedData → HereData → ℕ → Option LinkFaultData
led_to fault nodes here place = fault nodes place

abbrev pub twice : List PlacedData → HereData → ℕ → Option LinkFaultData
twice nodes here place = near_here place (twice_fault nodes here place)

abbrev pub always : HereData → Option FaultData
always here = Some (of_node Always)

-- ---- lists
abbrev pub listing : Bool → List ℕ → ListingData
listing optional cells = record { cells = cells; optional = optional }

abbrev pub by_list : List ℕ → List ℕ → Looks
by_list name cells = by_lists (λ other. bytes_eq other name) anywhere (listing false cells)

abbrev pub by_optional_list : List ℕ → List ℕ → Looks
by_optional_list name cells = by_lists (λ other. bytes_eq other name) anywhere (listing true cells)

-- of GPIO controllers: the lines of a hog are no list (bindings gpio/gpio.txt of Linux)
abbrev pub by_lines : List ℕ → Looks
by_lines cells = by_lists is_gpio (λ here. not (has here.node.properties (codes "gpio-hog"))) (listing false cells)
