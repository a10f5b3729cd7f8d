-- dtc's checks with their severities, with what they stand on and with what they look for (dtc 1.6.1, checks.c: the entries of
-- `check_table`), in the order in which it makes them: each behind those that it stands on. Behind them two that dtc doesn't have.
-- `error` and `warning` are what a mistake comes to where nothing else is said; what is `off` isn't looked for.
use Rattle.std.specs.Prelude.{ℕ, ◌+◌, ◌==◌, codes, if◌then◌else◌, List, [], ◌∷◌, ◌++◌, map}
use Rattle.std.specs.Option.{option_to_list}
use Rattle.std.specs.List.{slice_index_or, list_any, position_from}
use Rattle.std.specs.Str.{bytes_eq}
use Rattle.dt_check.specs.declared.message.Bus.TheVariants.{Pci, Simple, I2c, Spi}
use Rattle.dt_check.specs.declared.message.Graph.TheVariants.{Port, Endpoint}
use Rattle.dt_check.specs.declared.message.Message.TheVariants.{DefaultAddress, DefaultSize}
use Rattle.dt_check.specs.Addresses.{simple_fault, i2c_fault, i2c_bits_fault, spi_fault}
use Rattle.dt_check.specs.Bridges.{bridge_address_fault, bridge_size_fault, spi_name_fault, is_below}
use Rattle.dt_check.specs.Chosen.{controller_fault, place_fault, bootargs_fault, old_stdout_fault, stdout_fault, gpio_fault, names_fault}
use Rattle.dt_check.specs.Lost.{lost_fault}
use Rattle.dt_check.specs.Names.{node_byte_fault, strict_node_fault, second_at_fault, name_twice_fault, name_fault, property_byte_fault, strict_property_fault}
use Rattle.dt_check.specs.Pci.{pci_name_fault, no_ranges_fault, two_cells_fault, order_fault, end_fault, later_cells_fault, space_fault, register_fault, pci_unit_fault, pci_bus_fault}
use Rattle.dt_check.specs.Ranges.{ranges_fault, ranges_size_fault}
use Rattle.dt_check.specs.Reg.{reg_fault}
use Rattle.dt_check.specs.Style.{default_fault, unnecessary_fault}
use Rattle.dt_check.specs.Texts.{string_fault, string_list_fault, cell_fault}
use Rattle.dt_check.specs.UnitRules.{unit_fault, hex_fault, zero_fault}
use Rattle.dt_check.specs.Links.Endpoint.{near_fault, far_fault, one_way_fault}
use Rattle.dt_check.specs.Links.Graph.{is_of, single_child_fault, graph_name_fault, graph_reg_fault, graph_unit_fault, graph_address_fault, graph_size_fault}
use Rattle.dt_check.specs.Links.Interrupts.{length_fault, search_fault, missing_fault, cells_fault}
use Rattle.dt_check.specs.Links.Phandles.{phandle_fault, different_fault}
use Rattle.dtman_check.specs.declared.table.check.Severity.{Severity}
use Rattle.dtman_check.specs.declared.table.check.Severity.TheVariants.{Off, Warning, Error}
use Rattle.dtman_check.specs.declared.table.units.Counted.TheVariants.{All, Enabled}
use Rattle.dtman_check.specs.Table.Looks.{Looks, nothing, units, unknown, by_node, by_property, by_links, by_lists, aliases, anywhere, having, having_either, called, parents, addressed, own, led_to, twice, always, by_list, by_optional_list, by_lines}
use Rattle.dtman_check.specs.Table.Rules.{no_interrupt_cells, no_interrupt_address}

-- a check as it is said: what it stands on by name
pub record NamedCheck : Type 0 where
  pub name : List ℕ
  pub severity : Severity
  pub behind : List (List ℕ)
  pub looks : Looks

abbrev pub error : List ℕ → List (List ℕ) → Looks → NamedCheck
error name behind looks = record { name = name; severity = Error; behind = behind; looks = looks }

abbrev pub warning : List ℕ → List (List ℕ) → Looks → NamedCheck
warning name behind looks = record { name = name; severity = Warning; behind = behind; looks = looks }

abbrev pub off : List ℕ → List (List ℕ) → Looks → NamedCheck
off name behind looks = record { name = name; severity = Off; behind = behind; looks = looks }

unfoldable pub named_checks : List NamedCheck
named_checks =
    error (codes "duplicate_node_names") [] nothing
    ∷ error (codes "duplicate_property_names") [] nothing
    ∷ error (codes "node_name_chars") [] (by_node anywhere (node_byte_fault ∷ []))
    ∷ error (codes "node_name_format") (codes "node_name_chars" ∷ []) (by_node addressed (second_at_fault ∷ []))
    ∷ error (codes "property_name_chars") [] (by_property property_byte_fault)
    ∷ error (codes "name_is_string") [] (by_node (having (codes "name")) (string_fault (codes "name") ∷ []))
    ∷ error (codes "name_properties") (codes "name_is_string" ∷ []) (by_node (having (codes "name")) (name_fault ∷ []))
    ∷ warning (codes "node_name_vs_property_name") (codes "node_name_chars" ∷ []) (by_node anywhere (name_twice_fault ∷ []))
    ∷ error (codes "duplicate_label") [] nothing
    ∷ error (codes "explicit_phandles") []
    (by_links (having_either (codes "phandle") (codes "linux,phandle")) (own (phandle_fault (codes "phandle")) ∷ own (phandle_fault (codes "linux,phandle")) ∷ own different_fault ∷ twice ∷ []))
    ∷ error (codes "phandle_references") (codes "duplicate_node_names" ∷ codes "explicit_phandles" ∷ []) nothing
    ∷ error (codes "path_references") (codes "duplicate_node_names" ∷ []) nothing
    ∷ error (codes "omit_unused_nodes") (codes "phandle_references" ∷ codes "path_references" ∷ []) nothing
    ∷ warning (codes "address_cells_is_cell") [] (by_node (having (codes "#address-cells")) (cell_fault (codes "#address-cells") ∷ []))
    ∷ warning (codes "size_cells_is_cell") [] (by_node (having (codes "#size-cells")) (cell_fault (codes "#size-cells") ∷ []))
    ∷ warning (codes "device_type_is_string") [] (by_node (having (codes "device_type")) (string_fault (codes "device_type") ∷ []))
    ∷ warning (codes "model_is_string") [] (by_node (having (codes "model")) (string_fault (codes "model") ∷ []))
    ∷ warning (codes "status_is_string") [] (by_node (having (codes "status")) (string_fault (codes "status") ∷ []))
    ∷ warning (codes "label_is_string") [] (by_node (having (codes "label")) (string_fault (codes "label") ∷ []))
    ∷ warning (codes "compatible_is_string_list") [] (by_node (having (codes "compatible")) (string_list_fault (codes "compatible") ∷ []))
    ∷ warning (codes "names_is_string_list") [] (by_property names_fault)
    ∷ off (codes "property_name_chars_strict") [] (by_property strict_property_fault)
    ∷ off (codes "node_name_chars_strict") [] (by_node anywhere (strict_node_fault ∷ []))
    ∷ warning (codes "addr_size_cells") (codes "address_cells_is_cell" ∷ codes "size_cells_is_cell" ∷ []) nothing
    ∷ warning (codes "reg_format") (codes "addr_size_cells" ∷ []) (by_node (having (codes "reg")) (reg_fault ∷ []))
    ∷ warning (codes "ranges_format") (codes "addr_size_cells" ∷ [])
    (by_node (having (codes "ranges")) (ranges_fault (codes "ranges") ∷ ranges_size_fault (codes "ranges") ∷ []))
    ∷ warning (codes "dma_ranges_format") (codes "addr_size_cells" ∷ [])
    (by_node (having (codes "dma-ranges")) (ranges_fault (codes "dma-ranges") ∷ ranges_size_fault (codes "dma-ranges") ∷ []))
    ∷ warning (codes "unit_address_vs_reg") [] (by_node anywhere (unit_fault ∷ []))
    ∷ warning (codes "pci_bridge") (codes "device_type_is_string" ∷ codes "addr_size_cells" ∷ [])
    (by_node (having (codes "device_type")) (pci_name_fault ∷ no_ranges_fault ∷ bridge_address_fault Pci ∷ bridge_size_fault Pci ∷ two_cells_fault ∷ order_fault ∷ end_fault ∷ []))
    ∷ warning (codes "simple_bus_bridge") (codes "addr_size_cells" ∷ codes "compatible_is_string_list" ∷ []) nothing
    ∷ warning (codes "unit_address_format") (codes "node_name_format" ∷ codes "pci_bridge" ∷ codes "simple_bus_bridge" ∷ [])
    (by_node addressed (hex_fault ∷ zero_fault ∷ []))
    ∷ warning (codes "pci_device_reg") (codes "reg_format" ∷ codes "pci_bridge" ∷ [])
    (by_node (is_below Pci) (later_cells_fault ∷ space_fault ∷ register_fault ∷ pci_unit_fault ∷ []))
    ∷ warning (codes "pci_device_bus_num") (codes "reg_format" ∷ codes "pci_bridge" ∷ []) (by_node (is_below Pci) (pci_bus_fault ∷ []))
    ∷ warning (codes "simple_bus_reg") (codes "reg_format" ∷ codes "simple_bus_bridge" ∷ []) (by_node (is_below Simple) (simple_fault ∷ []))
    ∷ warning (codes "i2c_bus_bridge") (codes "addr_size_cells" ∷ []) (by_node parents (bridge_address_fault I2c ∷ bridge_size_fault I2c ∷ []))
    ∷ warning (codes "i2c_bus_reg") (codes "reg_format" ∷ codes "i2c_bus_bridge" ∷ []) (by_node (is_below I2c) (i2c_fault ∷ i2c_bits_fault ∷ []))
    ∷ warning (codes "spi_bus_bridge") (codes "addr_size_cells" ∷ [])
    (by_node parents (spi_name_fault ∷ bridge_address_fault Spi ∷ bridge_size_fault Spi ∷ []))
    ∷ warning (codes "spi_bus_reg") (codes "reg_format" ∷ codes "spi_bus_bridge" ∷ []) (by_node (is_below Spi) (spi_fault ∷ []))
    ∷ warning (codes "avoid_default_addr_size") (codes "addr_size_cells" ∷ [])
    (by_node (having_either (codes "reg") (codes "ranges")) (default_fault (codes "#address-cells") DefaultAddress ∷ default_fault (codes "#size-cells") DefaultSize ∷ []))
    ∷ warning (codes "avoid_unnecessary_addr_size") (codes "avoid_default_addr_size" ∷ [])
    (by_node (having (codes "#address-cells")) (unnecessary_fault ∷ []))
    ∷ warning (codes "unique_unit_address") (codes "avoid_default_addr_size" ∷ []) (units All)
    ∷ off (codes "unique_unit_address_if_enabled") (codes "avoid_default_addr_size" ∷ []) (units Enabled)
    ∷ warning (codes "obsolete_chosen_interrupt_controller") [] (by_node (called []) (controller_fault ∷ []))
    ∷ warning (codes "chosen_node_is_root") [] (by_node (called (codes "chosen")) (place_fault ∷ []))
    ∷ warning (codes "chosen_node_bootargs") [] (by_node (called (codes "chosen")) (bootargs_fault ∷ []))
    ∷ warning (codes "chosen_node_stdout_path") [] (by_node (called (codes "chosen")) (old_stdout_fault ∷ stdout_fault ∷ []))
    ∷ warning (codes "clocks_is_cell") [] (by_node (having (codes "#clock-cells")) (cell_fault (codes "#clock-cells") ∷ []))
    ∷ warning (codes "clocks_property") (codes "clocks_is_cell" ∷ codes "phandle_references" ∷ []) (by_list (codes "clocks") (codes "#clock-cells"))
    ∷ warning (codes "cooling_device_is_cell") [] (by_node (having (codes "#cooling-cells")) (cell_fault (codes "#cooling-cells") ∷ []))
    ∷ warning (codes "cooling_device_property") (codes "cooling_device_is_cell" ∷ codes "phandle_references" ∷ [])
    (by_list (codes "cooling-device") (codes "#cooling-cells"))
    ∷ warning (codes "dmas_is_cell") [] (by_node (having (codes "#dma-cells")) (cell_fault (codes "#dma-cells") ∷ []))
    ∷ warning (codes "dmas_property") (codes "dmas_is_cell" ∷ codes "phandle_references" ∷ []) (by_list (codes "dmas") (codes "#dma-cells"))
    ∷ warning (codes "hwlocks_is_cell") [] (by_node (having (codes "#hwlock-cells")) (cell_fault (codes "#hwlock-cells") ∷ []))
    ∷ warning (codes "hwlocks_property") (codes "hwlocks_is_cell" ∷ codes "phandle_references" ∷ [])
    (by_list (codes "hwlocks") (codes "#hwlock-cells"))
    ∷ warning (codes "interrupts_extended_is_cell") [] (by_node (having (codes "#interrupt-cells")) (cell_fault (codes "#interrupt-cells") ∷ []))
    ∷ warning (codes "interrupts_extended_property") (codes "interrupts_extended_is_cell" ∷ codes "phandle_references" ∷ [])
    (by_list (codes "interrupts-extended") (codes "#interrupt-cells"))
    ∷ warning (codes "io_channels_is_cell") [] (by_node (having (codes "#io-channel-cells")) (cell_fault (codes "#io-channel-cells") ∷ []))
    ∷ warning (codes "io_channels_property") (codes "io_channels_is_cell" ∷ codes "phandle_references" ∷ [])
    (by_list (codes "io-channels") (codes "#io-channel-cells"))
    ∷ warning (codes "iommus_is_cell") [] (by_node (having (codes "#iommu-cells")) (cell_fault (codes "#iommu-cells") ∷ []))
    ∷ warning (codes "iommus_property") (codes "iommus_is_cell" ∷ codes "phandle_references" ∷ []) (by_list (codes "iommus") (codes "#iommu-cells"))
    ∷ warning (codes "mboxes_is_cell") [] (by_node (having (codes "#mbox-cells")) (cell_fault (codes "#mbox-cells") ∷ []))
    ∷ warning (codes "mboxes_property") (codes "mboxes_is_cell" ∷ codes "phandle_references" ∷ []) (by_list (codes "mboxes") (codes "#mbox-cells"))
    ∷ warning (codes "msi_parent_is_cell") [] (by_node (having (codes "#msi-cells")) (cell_fault (codes "#msi-cells") ∷ []))
    ∷ warning (codes "msi_parent_property") (codes "msi_parent_is_cell" ∷ codes "phandle_references" ∷ [])
    (by_optional_list (codes "msi-parent") (codes "#msi-cells"))
    ∷ warning (codes "mux_controls_is_cell") [] (by_node (having (codes "#mux-control-cells")) (cell_fault (codes "#mux-control-cells") ∷ []))
    ∷ warning (codes "mux_controls_property") (codes "mux_controls_is_cell" ∷ codes "phandle_references" ∷ [])
    (by_list (codes "mux-controls") (codes "#mux-control-cells"))
    ∷ warning (codes "phys_is_cell") [] (by_node (having (codes "#phy-cells")) (cell_fault (codes "#phy-cells") ∷ []))
    ∷ warning (codes "phys_property") (codes "phys_is_cell" ∷ codes "phandle_references" ∷ []) (by_list (codes "phys") (codes "#phy-cells"))
    ∷ warning (codes "power_domains_is_cell") [] (by_node (having (codes "#power-domain-cells")) (cell_fault (codes "#power-domain-cells") ∷ []))
    ∷ warning (codes "power_domains_property") (codes "power_domains_is_cell" ∷ codes "phandle_references" ∷ [])
    (by_list (codes "power-domains") (codes "#power-domain-cells"))
    ∷ warning (codes "pwms_is_cell") [] (by_node (having (codes "#pwm-cells")) (cell_fault (codes "#pwm-cells") ∷ []))
    ∷ warning (codes "pwms_property") (codes "pwms_is_cell" ∷ codes "phandle_references" ∷ []) (by_list (codes "pwms") (codes "#pwm-cells"))
    ∷ warning (codes "resets_is_cell") [] (by_node (having (codes "#reset-cells")) (cell_fault (codes "#reset-cells") ∷ []))
    ∷ warning (codes "resets_property") (codes "resets_is_cell" ∷ codes "phandle_references" ∷ []) (by_list (codes "resets") (codes "#reset-cells"))
    ∷ warning (codes "sound_dai_is_cell") [] (by_node (having (codes "#sound-dai-cells")) (cell_fault (codes "#sound-dai-cells") ∷ []))
    ∷ warning (codes "sound_dai_property") (codes "sound_dai_is_cell" ∷ codes "phandle_references" ∷ [])
    (by_list (codes "sound-dai") (codes "#sound-dai-cells"))
    ∷ warning (codes "thermal_sensors_is_cell") []
    (by_node (having (codes "#thermal-sensor-cells")) (cell_fault (codes "#thermal-sensor-cells") ∷ []))
    ∷ warning (codes "thermal_sensors_property") (codes "thermal_sensors_is_cell" ∷ codes "phandle_references" ∷ [])
    (by_list (codes "thermal-sensors") (codes "#thermal-sensor-cells"))
    ∷ off (codes "deprecated_gpio_property") [] (by_property gpio_fault)
    ∷ warning (codes "gpios_property") (codes "phandle_references" ∷ []) (by_lines (codes "#gpio-cells"))
    ∷ warning (codes "interrupts_property") []
    (by_links (having (codes "interrupts")) (led_to length_fault ∷ led_to search_fault ∷ led_to missing_fault ∷ led_to cells_fault ∷ []))
    ∷ warning (codes "interrupt_provider") []
    (by_node (having_either (codes "interrupt-controller") (codes "interrupt-map")) (no_interrupt_cells ∷ no_interrupt_address ∷ []))
    ∷ warning (codes "alias_paths") [] aliases
    ∷ warning (codes "graph_nodes") [] nothing
    ∷ warning (codes "graph_child_address") (codes "graph_nodes" ∷ []) (by_links parents (own single_child_fault ∷ []))
    ∷ warning (codes "graph_port") (codes "graph_nodes" ∷ [])
    (by_links (is_of Port) (own (graph_name_fault Port) ∷ own (graph_reg_fault Port) ∷ own (graph_unit_fault Port) ∷ own (graph_address_fault Port) ∷ own (graph_size_fault Port) ∷ []))
    ∷ warning (codes "graph_endpoint") (codes "graph_nodes" ∷ [])
    (by_links (is_of Endpoint) (own (graph_name_fault Endpoint) ∷ own (graph_reg_fault Endpoint) ∷ own (graph_unit_fault Endpoint) ∷ own (graph_address_fault Endpoint) ∷ own (graph_size_fault Endpoint) ∷ near_fault ∷ far_fault ∷ one_way_fault ∷ []))
    ∷ off (codes "always_fail") [] (by_node anywhere (always ∷ []))
    ∷ off (codes "lost_ranges") [] (by_node anywhere (lost_fault ∷ []))
    ∷ off (codes "unknown_property") [] unknown
    ∷ []

-- ---- by places
-- a check as others name it: what it stands on, and what is made before it, by places in the table
pub record CheckData : Type 0 where
  pub name : List ℕ
  pub severity : Severity
  pub prerequisites : List ℕ
  pub made_before : List ℕ
  pub looks : Looks

abbrev pub places_of : List (List ℕ) → List (List ℕ) → List ℕ
places_of names [] = []
places_of names (w ∷ ws) = option_to_list (position_from (bytes_eq w) 0 names) ++ places_of names ws

-- these places, and those that aren't among them yet
abbrev pub joined : List ℕ → List ℕ → List ℕ
joined places [] = places
joined places (p ∷ ps) = joined (if list_any (λ place. place == p) places then places else places ++ p ∷ []) ps

-- each of these behind what is made before it (checks.c: `run_check` makes what a check stands on first, and a check once), by what is
-- made before each check of the table so far
abbrev pub made_in_turn : List (List ℕ) → List ℕ → List ℕ → List ℕ
made_in_turn before made [] = made
made_in_turn before made (p ∷ ps) = made_in_turn before (joined made (slice_index_or before p [] ++ p ∷ [])) ps

abbrev pub with_places : List (List ℕ) → List (List ℕ) → List NamedCheck → List CheckData
with_places names before [] = []
with_places names before (r ∷ rs) =
    let prerequisites = places_of names r.behind in
    let made_before = made_in_turn before [] prerequisites in
    record { name = r.name; severity = r.severity; prerequisites = prerequisites; made_before = made_before; looks = r.looks }
    ∷ with_places names (before ++ made_before ∷ []) rs

-- the table
unfoldable pub checks : List CheckData
checks = with_places (map (λ r. r.name) named_checks) [] named_checks
