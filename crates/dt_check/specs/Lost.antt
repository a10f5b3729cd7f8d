-- A bus whose `ranges` is lost (Devicetree Specification v0.4, section 2.3.8: without it no address of a child is one of the node above,
-- so a device there can't be reached). Devices have `compatible` (section 2.3.1), and sizes where their addresses are of memory
-- (section 2.3.5). The bindings mfd/syscon.yaml and mfd/mfd.txt of Linux: below these two, addresses are offsets in the node's own registers.
use Rattle.std.specs.Prelude.{ℕ, Bool, false, not, ◌&&◌, ◌||◌, ◌==◌, codes, if◌then◌else◌, List, length, Option, Some, None, option_and_then}
use Rattle.std.specs.Option.{option_map_or}
use Rattle.std.specs.List.{list_any}
use Rattle.dt_tree.specs.NodeData.{NodeData, nodes_of}
use Rattle.dt_tree.specs.PathMap.{value_of}
use Rattle.dt_check.specs.declared.message.Message.TheVariants.{LostRanges}
use Rattle.dt_check.specs.Cells.{has, size_cells}
use Rattle.dt_check.specs.Fault.{FaultData, of_node}
use Rattle.dt_check.specs.Nodes.{HereData}
use Rattle.dt_check.specs.Texts.{has_string}

abbrev pub has_address : NodeData → Bool
has_address b = option_map_or (λ v. not (length v == 0)) (value_of b.properties (codes "reg")) false

-- a device with an address
abbrev pub is_device : NodeData → Bool
is_device b = has b.properties (codes "compatible") && has_address b

-- devices in memory are below it
abbrev pub is_memory_bus : NodeData → Bool
is_memory_bus b = not (size_cells b.properties == 0) && list_any is_device (nodes_of b.children)

-- addresses below it are offsets in its registers
abbrev pub has_offsets : NodeData → Bool
has_offsets b =
    option_map_or (λ v. has_string (codes "syscon") v || has_string (codes "simple-mfd") v) (value_of b.properties (codes "compatible")) false

-- addresses below it are those above, or lead to them
abbrev pub is_reached : NodeData → Bool
is_reached b = length b.name == 0 || has b.properties (codes "ranges")

abbrev pub is_lost : NodeData → Bool
is_lost b = not (has b.properties (codes "ranges")) && not (has_offsets b) && is_memory_bus b

abbrev pub lost_fault : HereData → Option FaultData
lost_fault here =
    option_and_then (λ above. if is_reached above && is_lost here.node then Some (of_node LostRanges) else None) here.above
