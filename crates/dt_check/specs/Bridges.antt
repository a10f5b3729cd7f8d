-- Buses by their own nodes: the cells of addresses and sizes on them (PCI Bus Binding to IEEE 1275, section 2.1.4; the bindings
-- i2c/i2c.txt and spi/spi-controller.yaml of Linux: an SPI bus that is itself a slave has one device and no addresses).
use Rattle.std.specs.Prelude.{ℕ, Bool, true, false, not, ◌&&◌, ◌||◌, ◌==◌, codes, if◌then◌else◌, length, Option, Some, None}
use Rattle.std.specs.Option.{option_map_or}
use Rattle.dt_tree.specs.NodeData.{NodeData, nodes_of}
use Rattle.dt_check.specs.declared.message.Bus.{Bus}
use Rattle.dt_check.specs.declared.message.Bus.TheVariants.{Pci, Simple, I2c, Spi}
use Rattle.dt_check.specs.declared.message.Message.TheVariants.{BridgeName, BridgeAddress, BridgeSize}
use Rattle.dt_check.specs.Buses.{is_pci, is_simple, is_i2c, is_spi, is_spi_like}
use Rattle.dt_check.specs.Cells.{has, address_cells, size_cells}
use Rattle.dt_check.specs.Fault.{FaultData, of_node}
use Rattle.dt_check.specs.Nodes.{HereData}

abbrev pub is_bridge : Bus → NodeData → Bool
is_bridge Pci b = is_pci b
is_bridge Simple b = is_simple b
is_bridge I2c b = is_i2c b
is_bridge Spi b = is_spi b

-- a device on a bus of this kind
abbrev pub is_below : Bus → HereData → Bool
is_below bus here = option_map_or (is_bridge bus) here.above false

-- a bus of I2C or SPI says nothing where no device is on it
abbrev pub is_used : Bus → NodeData → Bool
is_used Pci b = true
is_used Simple b = true
is_used I2c b = not (length (nodes_of b.children) == 0)
is_used Spi b = not (length (nodes_of b.children) == 0)

abbrev pub wanted_address : Bus → NodeData → ℕ
wanted_address Pci b = 3
wanted_address Simple b = 1
wanted_address I2c b = 1
wanted_address Spi b = if has b.properties (codes "spi-slave") then 0 else 1

abbrev pub wanted_size : Bus → ℕ
wanted_size Pci = 2
wanted_size Simple = 1
wanted_size I2c = 0
wanted_size Spi = 0

abbrev pub bridge_address_fault : Bus → HereData → Option FaultData
bridge_address_fault bus here =
    if not (is_bridge bus here.node) || not (is_used bus here.node) then None
    else (if address_cells here.node.properties == wanted_address bus here.node then None else Some (of_node (BridgeAddress bus)))

abbrev pub bridge_size_fault : Bus → HereData → Option FaultData
bridge_size_fault bus here =
    if not (is_bridge bus here.node) || not (is_used bus here.node) then None
    else (if size_cells here.node.properties == wanted_size bus then None else Some (of_node (BridgeSize bus)))

-- by its devices alone, and addressed itself
abbrev pub spi_name_fault : HereData → Option FaultData
spi_name_fault here =
    if is_spi_like here.node && has here.node.properties (codes "reg") then Some (of_node (BridgeName Spi)) else None
