-- `reg` (Devicetree Specification v0.4, section 2.3.6): addresses and sizes of as many cells as the node above says. A root has none.
use Rattle.std.specs.Prelude.{ℕ, ◌+◌, ◌*◌, ◌==◌, codes, if◌then◌else◌, List, length, Option, Some, None, option_and_then}
use Rattle.std.specs.Option.{option_map_or}
use Rattle.dt_tree.specs.PathMap.{value_of}
use Rattle.dt_check.specs.declared.message.Message.TheVariants.{RootHasReg, IsEmpty, RegLength}
use Rattle.dt_check.specs.Cells.{address_cells, size_cells, is_multiple}
use Rattle.dt_check.specs.Fault.{FaultData, of_node, of_property}
use Rattle.dt_check.specs.Nodes.{HereData}

-- by the cells of an address and of a size, and the value
abbrev pub reg_fault_below : ℕ → ℕ → List ℕ → Option FaultData
reg_fault_below address size value =
    if length value == 0 then Some (of_property (codes "reg") IsEmpty)
    else (if is_multiple (length value) (4 * (address + size)) then None
    else Some (of_property (codes "reg") (RegLength (length value) address size)))

abbrev pub reg_fault : HereData → Option FaultData
reg_fault here =
    option_and_then
    (λ value. option_map_or
    (λ above. reg_fault_below (address_cells above.properties) (size_cells above.properties) value)
    here.above (Some (of_node RootHasReg)))
    (value_of here.node.properties (codes "reg"))
