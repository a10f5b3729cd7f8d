-- What is found once of each node: of it, and of the one above it.
use Rattle.std.specs.Prelude.{◌≡◌, Bool, false, Option}
use Rattle.std.specs.Option.{option_map_or}
use Rattle.dt_tree.specs.NodeData.{NodeData}
use Rattle.dt_check.specs.Buses.{is_pci, is_simple, is_i2c, is_spi_like, is_spi, is_provider}
use Rattle.dt_check.specs.Cells.{address_cells, size_cells}
use Rattle.dt_check.specs.Ports.{is_port}
use Rattle.dt_check.specs.UnitRules.{has_unit}
use Rattle.dt_check.specs.declared.traits.Traits.{Traits}

-- these are the node's
pub record AreTraits (b : NodeData) (t : Traits) : Type 0 where
  pub unit : t.unit ≡ has_unit b
  pub port : t.port ≡ is_port b
  pub pci : t.pci ≡ is_pci b
  pub simple : t.simple ≡ is_simple b
  pub i2c : t.i2c ≡ is_i2c b
  pub spi : t.spi ≡ is_spi b
  pub spi_like : t.spi_like ≡ is_spi_like b
  pub provider : t.provider ≡ is_provider b
  pub address_cells : t.address_cells ≡ address_cells b.properties
  pub size_cells : t.size_cells ≡ size_cells b.properties

-- these are those of the node above, or of none
pub record AreOuter (above : Option NodeData) (t : Traits) : Type 0 where
  pub port : t.port ≡ option_map_or is_port above false
  pub pci : t.pci ≡ option_map_or is_pci above false
  pub simple : t.simple ≡ option_map_or is_simple above false
  pub i2c : t.i2c ≡ option_map_or is_i2c above false
  pub spi : t.spi ≡ option_map_or is_spi above false
  pub address_cells : t.address_cells ≡ option_map_or (λ a. address_cells a.properties) above 2
  pub size_cells : t.size_cells ≡ option_map_or (λ a. size_cells a.properties) above 1
