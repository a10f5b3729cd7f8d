-- `ranges` and `dma-ranges` (Devicetree Specification v0.4, sections 2.3.8 and 2.3.9): addresses of the node, addresses of the node
-- above and sizes of the node. An empty map says that addresses below are those above, so both have as many cells. A root has none.
use Rattle.std.specs.Prelude.{ℕ, ◌+◌, ◌*◌, not, ◌||◌, ◌==◌, if◌then◌else◌, List, length, Option, Some, None, option_and_then}
use Rattle.std.specs.Option.{option_map_or}
use Rattle.dt_tree.specs.declared.property.Property.{Property}
use Rattle.dt_tree.specs.PathMap.{value_of}
use Rattle.dt_check.specs.declared.message.Message.TheVariants.{RootHas, EmptyAddress, EmptySize, RangesLength}
use Rattle.dt_check.specs.Cells.{address_cells, size_cells, is_multiple}
use Rattle.dt_check.specs.Fault.{FaultData, of_property}
use Rattle.dt_check.specs.Nodes.{HereData}

-- a map of so many bytes, by the properties of the node above and of the node
abbrev pub length_fault : List ℕ → List Property → List Property → ℕ → Option FaultData
length_fault name above own bytes =
    if is_multiple bytes (4 * (address_cells above + address_cells own + size_cells own)) then None
    else Some (of_property name (RangesLength bytes (address_cells above) (address_cells own) (size_cells own)))

abbrev pub map_fault : List ℕ → List Property → List Property → ℕ → Option FaultData
map_fault name above own bytes =
    if not (bytes == 0) then length_fault name above own bytes
    else (if address_cells own == address_cells above then None
    else Some (of_property name (EmptyAddress (address_cells own) (address_cells above))))

abbrev pub size_fault : List ℕ → List Property → List Property → ℕ → Option FaultData
size_fault name above own bytes =
    if not (bytes == 0) || size_cells own == size_cells above then None
    else Some (of_property name (EmptySize (size_cells own) (size_cells above)))

abbrev pub ranges_fault : List ℕ → HereData → Option FaultData
ranges_fault name here =
    option_and_then
    (λ v. option_map_or (λ above. map_fault name above.properties here.node.properties (length v)) here.above (Some (of_property name RootHas)))
    (value_of here.node.properties name)

abbrev pub ranges_size_fault : List ℕ → HereData → Option FaultData
ranges_size_fault name here =
    option_and_then
    (λ v. option_and_then (λ above. size_fault name above.properties here.node.properties (length v)) here.above)
    (value_of here.node.properties name)
