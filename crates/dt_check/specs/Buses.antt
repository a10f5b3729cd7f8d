-- Which bus a node is: PCI by `device_type` (PCI Bus Binding to IEEE 1275, section 2.2.1), a simple bus by `compatible` (Devicetree
-- Specification v0.4, section 4.5), I2C and SPI by their names (section 2.2.2; bindings i2c and spi of Linux), and SPI also where a
-- device has a property of the SPI binding. A parent of interrupts: section 2.4.
use Rattle.std.specs.Prelude.{ℕ, Bool, false, not, ◌&&◌, ◌||◌, ◌==◌, nat_le, codes, List, [], ◌∷◌, ◌++◌, length, take}
use Rattle.std.specs.Option.{option_map_or}
use Rattle.std.specs.List.{list_any}
use Rattle.std.specs.Str.{bytes_eq}
use Rattle.dt_tree.specs.NodeData.{NodeData, nodes_of}
use Rattle.dt_tree.specs.PathMap.{value_of}
use Rattle.dt_check.specs.Cells.{has, address_cells, size_cells}
use Rattle.dt_check.specs.Texts.{has_string}
use Rattle.dt_check.specs.Unit.{base_name}

-- the base of the node's name
abbrev pub is_called : List ℕ → NodeData → Bool
is_called name b = bytes_eq (base_name b.name) name

abbrev pub is_pci : NodeData → Bool
is_pci b = option_map_or (λ v. bytes_eq v (codes "pci" ++ 0 ∷ [])) (value_of b.properties (codes "device_type")) false

abbrev pub is_simple : NodeData → Bool
is_simple b = option_map_or (has_string (codes "simple-bus")) (value_of b.properties (codes "compatible")) false

abbrev pub is_i2c : NodeData → Bool
is_i2c b = is_called (codes "i2c-bus") b || is_called (codes "i2c-arb") b || is_called (codes "i2c") b

abbrev pub starts_spi : List ℕ → Bool
starts_spi name = nat_le 4 (length name) && bytes_eq (take 4 name) (codes "spi-")

abbrev pub has_spi_property : NodeData → Bool
has_spi_property b = list_any (λ p. starts_spi p.name) b.properties

abbrev pub is_spi_like : NodeData → Bool
is_spi_like b =
    not (is_called (codes "spi") b) && address_cells b.properties == 1 && size_cells b.properties == 0
    && list_any has_spi_property (nodes_of b.children)

abbrev pub is_spi : NodeData → Bool
is_spi b = is_called (codes "spi") b || is_spi_like b

abbrev pub is_provider : NodeData → Bool
is_provider b = has b.properties (codes "interrupt-controller") || has b.properties (codes "interrupt-map")
