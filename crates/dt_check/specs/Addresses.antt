-- Where a device is on its bus: its unit address is the first address of its `reg` in hex (Devicetree Specification v0.4, section
-- 2.2.1.1), on a simple bus else the first address above that its `ranges` names. The bindings i2c/i2c.txt and spi/spi-controller.yaml
-- of Linux: an I2C address has 7 bits, or 10 with bit 31; bit 30 says that it is the bus's own.
use Rattle.std.specs.Prelude.{ℕ, ◌+◌, ◌-◌, ◌*◌, ◌/◌, ◌%◌, Bool, false, not, ◌&&◌, ◌||◌, ◌==◌, nat_lt, codes, if◌then◌else◌, List, [], ◌∷◌, take, drop, length, Option, Some, None, option_and_then}
use Rattle.std.specs.Option.{option_map_or}
use Rattle.std.specs.Int.{from_be_bytes, w32}
use Rattle.dt_tree.specs.NodeData.{NodeData}
use Rattle.dt_tree.specs.PathMap.{value_of}
use Rattle.dt_tree.specs.Phandle.{or_else}
use Rattle.dt_check.specs.declared.message.Bus.{Bus}
use Rattle.dt_check.specs.declared.message.Bus.TheVariants.{Simple, I2c, Spi}
use Rattle.dt_check.specs.declared.message.Message.TheVariants.{NoAddress, Unit as WrongUnit, TenBits, SevenBits}
use Rattle.dt_check.specs.Buses.{is_i2c, is_simple, is_spi}
use Rattle.dt_check.specs.Cells.{has, address_cells, cell_from, cells_of}
use Rattle.dt_check.specs.Fault.{FaultData, of_node, of_property}
use Rattle.dt_check.specs.Nodes.{HereData}
use Rattle.dt_check.specs.Unit.{unit_address, is_hex_of}

-- the number in so many cells, of which the last two count
abbrev pub cell_at : ℕ → List ℕ → ℕ
cell_at offset v = from_be_bytes w32 (take 4 (drop offset v))

abbrev pub number_in : ℕ → List ℕ → Option ℕ
number_in cells v =
    if nat_lt (length v) (4 * cells) then None
    else (if 4 * cells == 0 then Some 0
    else (if 4 * cells == 4 then Some (cell_at (4 * cells - 4) v)
    else Some (cell_at (4 * cells - 8) v * 4294967296 + cell_at (4 * cells - 4) v)))

-- ---- on a simple bus
-- the first address above in `ranges`, which stands behind the first of the node itself
abbrev pub translated : NodeData → NodeData → Option ℕ
translated b above =
    option_and_then
    (λ v. if length v == 0 then None else number_in (address_cells above.properties) (drop (4 * address_cells b.properties) v))
    (value_of b.properties (codes "ranges"))

abbrev pub simple_number : NodeData → NodeData → Option ℕ
simple_number b above =
    option_map_or (number_in (address_cells above.properties)) (value_of b.properties (codes "reg")) (translated b above)

abbrev pub has_entries : NodeData → Bool
has_entries b = option_map_or (λ v. not (length v == 0)) (value_of b.properties (codes "ranges")) false

-- no address, of a node that is no bus itself and is on a bus that isn't the root
abbrev pub is_missing : NodeData → NodeData → Bool
is_missing b above =
    not (has b.properties (codes "reg")) && not (has_entries b) && not (length above.name == 0) && not (is_simple b)

abbrev pub unit_fault_by : Bus → ℕ → NodeData → Option FaultData
unit_fault_by bus number b = if is_hex_of number (unit_address b.name) then None else Some (of_node (WrongUnit bus number))

abbrev pub simple_fault_on : NodeData → NodeData → Option FaultData
simple_fault_on b above =
    if not (is_simple above) then None
    else (if is_missing b above then Some (of_node (NoAddress Simple))
    else option_and_then (λ number. unit_fault_by Simple number b) (simple_number b above))

abbrev pub simple_fault : HereData → Option FaultData
simple_fault here = option_and_then (simple_fault_on here.node) here.above

-- ---- on I2C and SPI
abbrev pub no_reg_fault : Bus → NodeData → Option FaultData
no_reg_fault bus b = if has b.properties (codes "reg") then None else Some (of_node (NoAddress bus))

abbrev pub first_address : NodeData → Option ℕ
first_address b = option_and_then (cell_from 0) (value_of b.properties (codes "reg"))

-- without bit 30
abbrev pub without_own : ℕ → ℕ
without_own address = address / 2147483648 * 2147483648 + address % 1073741824

abbrev pub i2c_fault : HereData → Option FaultData
i2c_fault here =
    option_and_then
    (λ above. if not (is_i2c above) then None
    else option_map_or (λ a. unit_fault_by I2c (without_own a) here.node) (first_address here.node) (no_reg_fault I2c here.node))
    here.above

-- the one device of a bus that is itself a slave has no address
abbrev pub spi_fault : HereData → Option FaultData
spi_fault here =
    option_and_then
    (λ above. if not (is_spi above) || has above.properties (codes "spi-slave") then None
    else option_map_or (λ a. unit_fault_by Spi a here.node) (first_address here.node) (no_reg_fault Spi here.node))
    here.above

-- over 10 bits behind bit 31, or over 7
abbrev pub bits_fault : ℕ → Option FaultData
bits_fault address =
    if nat_lt (2147483648 + 1023) (without_own address) then Some (of_property (codes "reg") (TenBits (without_own address)))
    else (if nat_lt 127 (without_own address) then Some (of_property (codes "reg") (SevenBits (without_own address))) else None)

-- of the first of these addresses that has too many
abbrev pub first_bits_fault : List ℕ → Option FaultData
first_bits_fault [] = None
first_bits_fault (a ∷ more) = or_else (bits_fault a) (first_bits_fault more)

abbrev pub i2c_bits_fault : HereData → Option FaultData
i2c_bits_fault here =
    option_and_then
    (λ above. if not (is_i2c above) then None
    else option_and_then (λ v. first_bits_fault (cells_of v)) (value_of here.node.properties (codes "reg")))
    here.above
