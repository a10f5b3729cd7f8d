-- What a node's `reg` says, by the cells that its parent tells (Devicetree Specification v0.4, sections 2.3.5 and 2.3.6).
use Rattle.std.specs.Prelude.{ℕ, ◌+◌, ◌*◌, ◌==◌, List, Option, Some, None, codes, if◌then◌else◌, option_and_then}
use Rattle.std.specs.Option.{option_map, option_map_or}
use Rattle.dt_tree.specs.Cell.{cell_in}
use Rattle.dt_tree.specs.declared.property.Property.{Property}
use Rattle.dt_tree.specs.PathMap.{value_of}
use Rattle.dt_patch.specs.declared.view.regions.RegCells.{RegCells}
use Rattle.dt_patch.specs.declared.view.regions.Region.{Region}
use Rattle.dt_patch.specs.View.Cells.{double_cell_in, number_in}

-- the cell that a property has, or a default where there is no such property; none where its value isn't one cell
abbrev pub cell_or : ℕ → List ℕ → List Property → Option ℕ
cell_or default name ps = option_map_or cell_in (value_of ps name) (Some default)

-- how many cells the addresses and the sizes of a node's children have: 2 and 1 where it doesn't say
abbrev pub reg_cells : List Property → Option RegCells
reg_cells ps =
    option_and_then (λ a. option_map (λ s. record { address = a; size = s }) (cell_or 1 (codes "#size-cells") ps)) (cell_or 2 (codes "#address-cells") ps)

-- the number that one or two cells at a place make, the higher one first
abbrev pub wide_number_in : ℕ → List ℕ → ℕ → Option ℕ
wide_number_in cells value place =
    if cells == 1 then number_in value place else (if cells == 2 then double_cell_in value place else None)

-- no cells make 0
abbrev pub size_in : ℕ → List ℕ → ℕ → Option ℕ
size_in cells value place = if cells == 0 then Some 0 else wide_number_in cells value place

-- the entry at a place of `reg`, counted from 0: addresses have one or two cells, sizes at most two
abbrev pub region_in : RegCells → List ℕ → ℕ → Option Region
region_in cells value index =
    let start = index * (cells.address + cells.size) in
    option_and_then (λ a. option_map (λ s. record { address = a; size = s }) (size_in cells.size value (start + cells.address)))
    (wide_number_in cells.address value start)

-- the entry of a node's `reg`, by its parent's properties
abbrev pub region_of : List Property → List Property → ℕ → Option Region
region_of parent own index =
    option_and_then (λ cells. option_and_then (λ value. region_in cells value index) (value_of own (codes "reg"))) (reg_cells parent)
