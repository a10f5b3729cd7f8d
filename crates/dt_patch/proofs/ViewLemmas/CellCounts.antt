-- Cells of addresses and sizes, as far as they are read.
use Rattle.std.proofs.Common.{◌≡◌, ℕ, List, Option, Some, None, refl, ap, sym, ◌∙◌}
use Rattle.std.specs.Prelude.{codes, option_and_then}
use Rattle.std.specs.Option.{option_map}
use Rattle.dt_tree.specs.PathMap.{value_of}
use Rattle.dt_tree.specs.declared.property.Property.{Property}
use Rattle.dt_patch.specs.declared.view.regions.RegCells.{RegCells}
use Rattle.dt_patch.specs.declared.view.regions.Region.{Region}
use Rattle.dt_patch.specs.View.Regions.{cell_or, reg_cells, region_in, region_of}

abbrev together : Option ℕ → Option ℕ → Option RegCells
together a s = option_and_then (λ x. option_map (λ y. record { address = x; size = y }) s) a

pub read_cells : (ps : List Property) (a s : Option ℕ) → a ≡ cell_or 2 (codes "#address-cells") ps → s ≡ cell_or 1 (codes "#size-cells") ps → together a s ≡ reg_cells ps
read_cells ps a s e f = ap (λ (x : Option ℕ). together x s) e ∙ ap (together (cell_or 2 (codes "#address-cells") ps)) f

no_size : (a : Option ℕ) → together a None ≡ None
no_size None = refl
no_size (Some a) = refl

pub read_none : (ps : List Property) (a : Option ℕ) → a ≡ cell_or 2 (codes "#address-cells") ps → None ≡ cell_or 1 (codes "#size-cells") ps → None ≡ reg_cells ps
read_none ps a e f = sym (no_size a) ∙ read_cells ps a None e f

abbrev entry : Option RegCells → Option (List ℕ) → ℕ → Option Region
entry cells value index = option_and_then (λ c. option_and_then (λ v. region_in c v index) value) cells

pub read_region : (ps qs : List Property) (index : ℕ) (cells : Option RegCells) (value : Option (List ℕ)) → cells ≡ reg_cells ps → value ≡ value_of qs (codes "reg") → entry cells value index ≡ region_of ps qs index
read_region ps qs index cells value e f = ap (λ (x : Option RegCells). entry x value index) e ∙ ap (λ (x : Option (List ℕ)). entry (reg_cells ps) x index) f
