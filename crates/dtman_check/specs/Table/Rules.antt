-- Which definition each rule goes by.
use Rattle.std.specs.Prelude.{ℕ, codes, List, Option, Some, None}
use Rattle.std.specs.Option.{option_map}
use Rattle.dt_tree.specs.declared.property.Property.{Property}
use Rattle.dt_check.specs.declared.message.Message.TheVariants.{Always as AlwaysFails, DefaultAddress as NoAddressCells, DefaultSize as NoSizeCells, NoInterruptCells as WithoutCells, NoInterruptAddress as WithoutAddress}
use Rattle.dt_check.specs.Addresses.{simple_fault, i2c_fault, i2c_bits_fault, spi_fault}
use Rattle.dt_check.specs.Bridges.{bridge_address_fault, bridge_size_fault, spi_name_fault}
use Rattle.dt_check.specs.Chosen.{controller_fault, place_fault, bootargs_fault, old_stdout_fault, stdout_fault, is_parent_without, gpio_fault, names_fault}
use Rattle.dt_check.specs.Fault.{FaultData, of_node}
use Rattle.dt_check.specs.Lost.{lost_fault}
use Rattle.dt_check.specs.Names.{node_byte_fault, strict_node_fault, second_at_fault, name_twice_fault, name_fault, property_byte_fault, strict_property_fault}
use Rattle.dt_check.specs.Nodes.{PlacedData, HereData}
use Rattle.dt_check.specs.Pci.{pci_name_fault, no_ranges_fault, two_cells_fault, order_fault, end_fault, later_cells_fault, space_fault, register_fault, pci_unit_fault, pci_bus_fault}
use Rattle.dt_check.specs.Ranges.{ranges_fault, ranges_size_fault}
use Rattle.dt_check.specs.Reg.{reg_fault}
use Rattle.dt_check.specs.Style.{default_fault, unnecessary_fault}
use Rattle.dt_check.specs.Texts.{string_fault, string_list_fault, cell_fault}
use Rattle.dt_check.specs.UnitRules.{unit_fault, hex_fault, zero_fault}
use Rattle.dt_check.specs.Links.Endpoint.{near_fault, far_fault, one_way_fault}
use Rattle.dt_check.specs.Links.Graph.{single_child_fault, graph_name_fault, graph_reg_fault, graph_unit_fault, graph_address_fault, graph_size_fault}
use Rattle.dt_check.specs.Links.Interrupts.{length_fault, search_fault, missing_fault, cells_fault}
use Rattle.dt_check.specs.Links.Link.{LinkFaultData, at_node}
use Rattle.dt_check.specs.Links.Phandles.{phandle_fault, different_fault, twice_fault}
use Rattle.dtman_check.specs.declared.table.rule.LinkRule.{LinkRule}
use Rattle.dtman_check.specs.declared.table.rule.LinkRule.TheVariants.{Phandle, PhandlesDiffer, PhandleTwice, InterruptLength, InterruptWay, NoInterruptParent, InterruptCells, SingleChild, GraphName, GraphReg, GraphUnit, GraphAddress, GraphSize, NearEnd, FarEnd, OneWay}
use Rattle.dtman_check.specs.declared.table.rule.PropertyRule.{PropertyRule}
use Rattle.dtman_check.specs.declared.table.rule.PropertyRule.TheVariants.{Names, Byte, StrictByte, Gpio}
use Rattle.dtman_check.specs.declared.table.rule.Rule.{Rule}
use Rattle.dtman_check.specs.declared.table.rule.Rule.TheVariants.{IsString, IsStringList, IsCell, NodeByte, StrictNodeByte, SecondAt, NameTwice, NameProperty, Reg, Ranges, RangesSize, Unit as UnitAddress, LeadingHex, LeadingZero, PciName, NoRanges, BridgeAddress, BridgeSize, TwoCells, RangeOrder, RangeEnd, LaterCells, PciSpace, PciRegister, PciUnit, PciBus, SimpleAddress, I2cAddress, I2cBits, SpiName, SpiAddress, DefaultAddress, DefaultSize, Unnecessary, ObsoleteController, ChosenPlace, Bootargs, OldStdout, Stdout, NoInterruptCells, NoInterruptAddress, LostRanges, Always}

abbrev pub no_interrupt_cells : HereData → Option FaultData
no_interrupt_cells here = is_parent_without (codes "#interrupt-cells") WithoutCells here

abbrev pub no_interrupt_address : HereData → Option FaultData
no_interrupt_address here = is_parent_without (codes "#address-cells") WithoutAddress here

abbrev pub rule_fault : Rule → HereData → Option FaultData
rule_fault (IsString name) here = string_fault name.now here
rule_fault (IsStringList name) here = string_list_fault name.now here
rule_fault (IsCell name) here = cell_fault name.now here
rule_fault NodeByte here = node_byte_fault here
rule_fault StrictNodeByte here = strict_node_fault here
rule_fault SecondAt here = second_at_fault here
rule_fault NameTwice here = name_twice_fault here
rule_fault NameProperty here = name_fault here
rule_fault Reg here = reg_fault here
rule_fault (Ranges name) here = ranges_fault name.now here
rule_fault (RangesSize name) here = ranges_size_fault name.now here
rule_fault UnitAddress here = unit_fault here
rule_fault LeadingHex here = hex_fault here
rule_fault LeadingZero here = zero_fault here
rule_fault PciName here = pci_name_fault here
rule_fault NoRanges here = no_ranges_fault here
rule_fault (BridgeAddress bus) here = bridge_address_fault bus here
rule_fault (BridgeSize bus) here = bridge_size_fault bus here
rule_fault TwoCells here = two_cells_fault here
rule_fault RangeOrder here = order_fault here
rule_fault RangeEnd here = end_fault here
rule_fault LaterCells here = later_cells_fault here
rule_fault PciSpace here = space_fault here
rule_fault PciRegister here = register_fault here
rule_fault PciUnit here = pci_unit_fault here
rule_fault PciBus here = pci_bus_fault here
rule_fault SimpleAddress here = simple_fault here
rule_fault I2cAddress here = i2c_fault here
rule_fault I2cBits here = i2c_bits_fault here
rule_fault SpiName here = spi_name_fault here
rule_fault SpiAddress here = spi_fault here
rule_fault DefaultAddress here = default_fault (codes "#address-cells") NoAddressCells here
rule_fault DefaultSize here = default_fault (codes "#size-cells") NoSizeCells here
rule_fault Unnecessary here = unnecessary_fault here
rule_fault ObsoleteController here = controller_fault here
rule_fault ChosenPlace here = place_fault here
rule_fault Bootargs here = bootargs_fault here
rule_fault OldStdout here = old_stdout_fault here
rule_fault Stdout here = stdout_fault here
rule_fault NoInterruptCells here = no_interrupt_cells here
rule_fault NoInterruptAddress here = no_interrupt_address here
rule_fault LostRanges here = lost_fault here
rule_fault Always here = Some (of_node AlwaysFails)

abbrev pub property_fault : PropertyRule → Property → Option FaultData
property_fault Names p = names_fault p
property_fault Byte p = property_byte_fault p
property_fault StrictByte p = strict_property_fault p
property_fault Gpio p = gpio_fault p

-- a fault of the node itself
abbrev pub near_here : ℕ → Option FaultData → Option LinkFaultData
near_here place f = option_map (at_node place) f

abbrev pub here_fault : LinkRule → List PlacedData → HereData → ℕ → Option FaultData
here_fault (Phandle name) nodes here place = phandle_fault name.now here
here_fault PhandlesDiffer nodes here place = different_fault here
here_fault PhandleTwice nodes here place = twice_fault nodes here place
here_fault InterruptLength nodes here place = None
here_fault InterruptWay nodes here place = None
here_fault NoInterruptParent nodes here place = None
here_fault InterruptCells nodes here place = None
here_fault SingleChild nodes here place = single_child_fault here
here_fault (GraphName kind) nodes here place = graph_name_fault kind here
here_fault (GraphReg kind) nodes here place = graph_reg_fault kind here
here_fault (GraphUnit kind) nodes here place = graph_unit_fault kind here
here_fault (GraphAddress kind) nodes here place = graph_address_fault kind here
here_fault (GraphSize kind) nodes here place = graph_size_fault kind here
here_fault NearEnd nodes here place = None
here_fault FarEnd nodes here place = None
here_fault OneWay nodes here place = None

abbrev pub link_fault : LinkRule → List PlacedData → HereData → ℕ → Option LinkFaultData
link_fault (Phandle name) nodes here place = near_here place (here_fault (Phandle name) nodes here place)
link_fault PhandlesDiffer nodes here place = near_here place (here_fault PhandlesDiffer nodes here place)
link_fault PhandleTwice nodes here place = near_here place (here_fault PhandleTwice nodes here place)
link_fault InterruptLength nodes here place = length_fault nodes place
link_fault InterruptWay nodes here place = search_fault nodes place
link_fault NoInterruptParent nodes here place = missing_fault nodes place
link_fault InterruptCells nodes here place = cells_fault nodes place
link_fault SingleChild nodes here place = near_here place (here_fault SingleChild nodes here place)
link_fault (GraphName kind) nodes here place = near_here place (here_fault (GraphName kind) nodes here place)
link_fault (GraphReg kind) nodes here place = near_here place (here_fault (GraphReg kind) nodes here place)
link_fault (GraphUnit kind) nodes here place = near_here place (here_fault (GraphUnit kind) nodes here place)
link_fault (GraphAddress kind) nodes here place = near_here place (here_fault (GraphAddress kind) nodes here place)
link_fault (GraphSize kind) nodes here place = near_here place (here_fault (GraphSize kind) nodes here place)
link_fault NearEnd nodes here place = near_fault nodes here place
link_fault FarEnd nodes here place = far_fault nodes here place
link_fault OneWay nodes here place = one_way_fault nodes here place
