-- Graphs of devices (bindings graph.txt of Linux): a device has its ports below it, or below its node `ports`. Ports and endpoints are
-- numbered by a `reg` of one cell, which is the unit address; a single one needs no number. What a port is: `Ports.antt` of `dt_check`.
use Rattle.std.specs.Prelude.{ℕ, Bool, true, false, not, ◌&&◌, ◌||◌, ◌==◌, codes, if◌then◌else◌, List, length, Option, Some, None, option_and_then}
use Rattle.std.specs.Option.{option_map_or}
use Rattle.std.specs.List.{list_any}
use Rattle.dt_tree.specs.NodeData.{NodeData, nodes_of}
use Rattle.dt_tree.specs.Cell.{cell_in}
use Rattle.dt_tree.specs.PathMap.{value_of}
use Rattle.dt_check.specs.declared.message.Graph.{Graph}
use Rattle.dt_check.specs.declared.message.Graph.TheVariants.{Port, Endpoint}
use Rattle.dt_check.specs.declared.message.Message.{Message}
use Rattle.dt_check.specs.declared.message.Message.TheVariants.{SingleChild, GraphName, GraphReg, GraphUnit, GraphAddress, GraphSize}
use Rattle.dt_check.specs.Buses.{is_called, is_pci, is_simple, is_i2c, is_spi}
use Rattle.dt_check.specs.Cells.{has}
use Rattle.dt_check.specs.Chosen.{is_named}
use Rattle.dt_check.specs.Fault.{FaultData, of_node, of_property}
use Rattle.dt_check.specs.Nodes.{HereData}
use Rattle.dt_check.specs.Ports.{is_port}
use Rattle.dt_check.specs.Unit.{unit_address, is_hex_of}

abbrev pub is_addressed_port : NodeData → Bool
is_addressed_port b = is_port b && has b.properties (codes "reg")

abbrev pub is_on_bus : NodeData → Bool
is_on_bus b = is_pci b || is_simple b || is_i2c b || is_spi b

-- a node `ports`, or one with a numbered port, that is no bus
abbrev pub is_ports : NodeData → Bool
is_ports b =
    if is_on_bus b then false
    else (if is_named (codes "ports") b then list_any is_port (nodes_of b.children)
    else list_any is_addressed_port (nodes_of b.children))

-- an address other than 0
abbrev pub has_number : NodeData → Bool
has_number b =
    option_map_or (λ v. option_map_or (λ n. not (n == 0)) (cell_in v) true) (value_of b.properties (codes "reg")) false

-- one child without such an address, and a number of cells for addresses
abbrev pub is_single : NodeData → Bool
is_single b =
    length (nodes_of b.children) == 1 && not (list_any has_number (nodes_of b.children)) && has b.properties (codes "#address-cells")

abbrev pub single_child_fault : HereData → Option FaultData
single_child_fault here =
    if not (is_port here.node || is_ports here.node) || not (is_single here.node) then None else Some (of_node SingleChild)

-- ---- a port, or an endpoint of one
abbrev pub name_of : Graph → List ℕ
name_of Port = codes "port"
name_of Endpoint = codes "endpoint"

abbrev pub is_of : Graph → HereData → Bool
is_of Port here = is_port here.node
is_of Endpoint here = option_map_or is_port here.above false

abbrev pub graph_name_fault : Graph → HereData → Option FaultData
graph_name_fault kind here =
    if not (is_of kind here) || is_called (name_of kind) here.node then None else Some (of_node (GraphName kind))

abbrev pub graph_reg_fault : Graph → HereData → Option FaultData
graph_reg_fault kind here =
    if not (is_of kind here) then None
    else option_and_then (λ v. if length v == 4 then None else Some (of_node GraphReg)) (value_of here.node.properties (codes "reg"))

-- its number
abbrev pub graph_reg : Graph → HereData → Option ℕ
graph_reg kind here = if not (is_of kind here) then None else option_and_then cell_in (value_of here.node.properties (codes "reg"))

abbrev pub graph_unit_fault : Graph → HereData → Option FaultData
graph_unit_fault kind here =
    option_and_then (λ n. if is_hex_of n (unit_address here.node.name) then None else Some (of_node (GraphUnit n))) (graph_reg kind here)

-- what the node above says of the cells of numbers: one for addresses, none for sizes
abbrev pub cells_of_above : List ℕ → HereData → Option ℕ
cells_of_above name here = option_and_then (λ above. option_and_then cell_in (value_of above.properties name)) here.above

abbrev pub is_number : ℕ → Option ℕ → Bool
is_number n cells = option_map_or (λ m. m == n) cells false

abbrev pub cells_fault : List ℕ → Message → NodeData → FaultData
cells_fault name message b = if has b.properties name then of_property name message else of_node message

abbrev pub wrong_address : Option ℕ → NodeData → Option FaultData
wrong_address cells b = if is_number 1 cells then None else Some (cells_fault (codes "#address-cells") (GraphAddress cells) b)

abbrev pub wrong_size : Option ℕ → NodeData → Option FaultData
wrong_size cells b = if is_number 0 cells then None else Some (cells_fault (codes "#size-cells") (GraphSize cells) b)

abbrev pub graph_address_fault : Graph → HereData → Option FaultData
graph_address_fault kind here =
    option_and_then (λ _. wrong_address (cells_of_above (codes "#address-cells") here) here.node) (graph_reg kind here)

abbrev pub graph_size_fault : Graph → HereData → Option FaultData
graph_size_fault kind here =
    option_and_then (λ _. wrong_size (cells_of_above (codes "#size-cells") here) here.node) (graph_reg kind here)
