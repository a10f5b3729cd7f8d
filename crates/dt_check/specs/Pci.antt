-- PCI (PCI Bus Binding to IEEE 1275, sections 2.1.4 and 2.2.1): a bridge has addresses of three cells and sizes of two, `ranges` and
-- perhaps `bus-range`, the first and last of its buses. A device's address is of the configuration space: 8 bits of zeros, the bus,
-- 5 bits of device, 3 of function, 8 of register, which are 0 as the two other cells are; its unit address is `device,function`.
use Rattle.std.specs.Prelude.{ℕ, ◌+◌, ◌/◌, ◌%◌, Bool, not, ◌&&◌, ◌||◌, ◌==◌, nat_le, nat_lt, position, codes, if◌then◌else◌, List, take, drop, length, Option, Some, None, unwrap_or, option_and_then}
use Rattle.std.specs.Option.{option_map_or}
use Rattle.dt_tree.specs.declared.property.Property.{Property}
use Rattle.dt_tree.specs.PathMap.{value_of}
use Rattle.dt_check.specs.declared.message.Bus.TheVariants.{Pci}
use Rattle.dt_check.specs.declared.message.Message.TheVariants.{BridgeName, NoBridgeRanges, NotTwoCells, RangeOrder, RangeEnd, PciCells, PciSpace, PciRegister, PciUnit, PciBus}
use Rattle.dt_check.specs.Buses.{is_called, is_pci, is_simple}
use Rattle.dt_check.specs.Cells.{has, cell_from}
use Rattle.dt_check.specs.Fault.{FaultData, of_node, of_property}
use Rattle.dt_check.specs.Nodes.{HereData}
use Rattle.dt_check.specs.Unit.{unit_address, is_hex_of}

abbrev pub pci_name_fault : HereData → Option FaultData
pci_name_fault here =
    if not (is_pci here.node) || is_called (codes "pci") here.node || is_called (codes "pcie") here.node then None
    else Some (of_node (BridgeName Pci))

abbrev pub no_ranges_fault : HereData → Option FaultData
no_ranges_fault here =
    if not (is_pci here.node) || has here.node.properties (codes "ranges") then None else Some (of_node NoBridgeRanges)

-- a bridge's range of buses
abbrev pub bus_range : HereData → Option (List ℕ)
bus_range here = if not (is_pci here.node) then None else value_of here.node.properties (codes "bus-range")

-- the cell at this offset, or 0
abbrev pub first_cell : ℕ → List ℕ → ℕ
first_cell offset v = unwrap_or (cell_from offset v) 0

abbrev pub two_cells_fault : HereData → Option FaultData
two_cells_fault here =
    option_and_then (λ v. if length v == 8 then None else Some (of_property (codes "bus-range") NotTwoCells)) (bus_range here)

abbrev pub order_fault : HereData → Option FaultData
order_fault here =
    option_and_then
    (λ v. if length v == 8 && nat_lt (first_cell 4 v) (first_cell 0 v) then Some (of_property (codes "bus-range") RangeOrder) else None)
    (bus_range here)

abbrev pub end_fault : HereData → Option FaultData
end_fault here =
    option_and_then
    (λ v. if length v == 8 && nat_lt 255 (first_cell 4 v) then Some (of_property (codes "bus-range") RangeEnd) else None)
    (bus_range here)

-- the address of a device below a bridge, with a cell at least

abbrev pub pci_address : HereData → Option (List ℕ)
pci_address here =
    option_and_then
    (λ above. if not (is_pci above) || is_simple above then None
    else option_and_then (λ v. if nat_lt (length v) 4 then None else Some v) (value_of here.node.properties (codes "reg")))
    here.above

abbrev pub later_cells_fault : HereData → Option FaultData
later_cells_fault here =
    option_and_then
    (λ v. if first_cell 4 v == 0 && first_cell 8 v == 0 then None else Some (of_property (codes "reg") PciCells))
    (pci_address here)

abbrev pub space_fault : HereData → Option FaultData
space_fault here =
    option_and_then
    (λ v. if nat_lt (first_cell 0 v) 16777216 then None else Some (of_property (codes "reg") PciSpace))
    (pci_address here)

abbrev pub register_fault : HereData → Option FaultData
register_fault here =
    option_and_then
    (λ v. if first_cell 0 v % 256 == 0 then None else Some (of_property (codes "reg") PciRegister))
    (pci_address here)

abbrev pub is_comma : ℕ → Bool
is_comma b = b == 44

-- `device,function`, or the device alone for its function 0
abbrev pub is_pci_unit : ℕ → ℕ → List ℕ → Bool
is_pci_unit device function unit =
    option_map_or
    (λ comma. is_hex_of device (take comma unit) && is_hex_of function (drop (comma + 1) unit))
    (position is_comma unit)
    (function == 0 && is_hex_of device unit)

abbrev pub pci_unit_fault : HereData → Option FaultData
pci_unit_fault here =
    option_and_then
    (λ v. if is_pci_unit (first_cell 0 v / 2048 % 32) (first_cell 0 v / 256 % 8) (unit_address here.node.name) then None
    else Some (of_node (PciUnit (first_cell 0 v / 2048 % 32) (first_cell 0 v / 256 % 8))))
    (pci_address here)

-- the buses behind a bridge: bus 0 where it doesn't say
abbrev pub first_bus : List Property → ℕ
first_bus ps = option_map_or (first_cell 0) (value_of ps (codes "bus-range")) 0

abbrev pub last_bus : List Property → ℕ
last_bus ps = option_map_or (first_cell 4) (value_of ps (codes "bus-range")) 0

abbrev pub bus_fault_of : List Property → ℕ → FaultData
bus_fault_of ps number =
    if has ps (codes "bus-range") then of_property (codes "bus-range") (PciBus number (first_bus ps) (last_bus ps))
    else of_node (PciBus number (first_bus ps) (last_bus ps))

abbrev pub bus_fault_in : List Property → ℕ → Option FaultData
bus_fault_in ps number =
    if nat_le (first_bus ps) number && nat_le number (last_bus ps) then None else Some (bus_fault_of ps number)

abbrev pub pci_bus_fault : HereData → Option FaultData
pci_bus_fault here =
    option_and_then
    (λ v. option_and_then (λ above. bus_fault_in above.properties (first_cell 0 v / 65536 % 256)) here.above)
    (pci_address here)
