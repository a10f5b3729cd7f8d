-- The regions of memory that nodes name by `reg` (Devicetree Specification v0.4, section 2.3.6), where the processors see them, with the
-- strings of `reg-names`. Not told are those of no bytes, those that reach beyond 64 bits, and those that no bus hands on.
use Rattle.std.specs.Prelude.{ℕ, zero, suc, ◌+◌, ◌*◌, Bool, ◌&&◌, ◌==◌, nat_le, nat_lt, codes, if◌then◌else◌, List, [], ◌∷◌, ◌++◌, length, take, drop, position, Option, Some, None, unwrap_or, option_and_then}
use Rattle.std.specs.Option.{option_map_or, option_to_list}
use Rattle.dt_check.specs.Nodes.{PlacedData, above_at, value_at}
use Rattle.dt_questions.specs.Addresses.{address_at, number_in, raised, size_at}
use Rattle.dt_questions.specs.Nodes.{is_hidden}

-- a node's region, `size` bytes from `start` on
pub record RegionData : Type 0 where
  pub node : ℕ
  pub name : List ℕ
  pub start : ℕ
  pub size : ℕ

abbrev pub name_end : List ℕ → ℕ
name_end names = unwrap_or (position (λ b. b == 0) names) (length names)

-- the first string, and those behind it
abbrev pub first_name : List ℕ → List ℕ
first_name names = take (name_end names) names

abbrev pub other_names : List ℕ → List ℕ
other_names names = drop (name_end names + 1) names

abbrev pub is_region : ℕ → ℕ → Bool
is_region start size = nat_lt 0 size && nat_le (start + size) 18446744073709551616

abbrev pub region_at : ℕ → List ℕ → ℕ → ℕ → Option RegionData
region_at node name size start = if is_region start size then Some (record { node = node; name = name; start = start; size = size }) else None

-- the one that the first row of a value says
abbrev pub region_in : List PlacedData → ℕ → ℕ → List ℕ → List ℕ → Option RegionData
region_in nodes node bus name row =
    option_and_then (λ address. option_and_then (λ size. option_and_then (region_at node name size) (raised nodes bus address))
    (number_in (size_at nodes bus) (drop (4 * address_at nodes bus) row))) (number_in (address_at nodes bus) row)

abbrev pub reg_len : List PlacedData → ℕ → ℕ
reg_len nodes bus = 4 * (address_at nodes bus + size_at nodes bus)

-- those of so many rows at most
abbrev pub regions_within : List PlacedData → ℕ → ℕ → ℕ → List ℕ → List ℕ → List RegionData
regions_within nodes node bus zero names rows = []
regions_within nodes node bus (suc left) names rows =
    if nat_lt (length rows) (reg_len nodes bus) then []
    else option_to_list (region_in nodes node bus (first_name names) rows)
    ++ regions_within nodes node bus left (other_names names) (drop (reg_len nodes bus) rows)

abbrev pub names_of : List PlacedData → ℕ → List ℕ
names_of nodes node = unwrap_or (value_at nodes node (codes "reg-names")) []

-- a row has at least four bytes, or nothing is said by it
abbrev pub regions_on : List PlacedData → ℕ → ℕ → List ℕ → List ℕ → List RegionData
regions_on nodes node bus names rows = regions_within nodes node bus (length rows) names rows

abbrev pub regions_below : List PlacedData → ℕ → ℕ → List RegionData
regions_below nodes node bus = option_map_or (regions_on nodes node bus (names_of nodes node)) (value_at nodes node (codes "reg")) []

abbrev pub regions_of : List PlacedData → ℕ → List RegionData
regions_of nodes node = if is_hidden nodes node then [] else option_map_or (regions_below nodes node) (above_at nodes node) []

-- those of these nodes, the first of which has this place
abbrev pub regions_from : List PlacedData → ℕ → List PlacedData → List RegionData
regions_from nodes node [] = []
regions_from nodes node (p ∷ ps) = regions_of nodes node ++ regions_from nodes (node + 1) ps

abbrev pub regions : List PlacedData → List RegionData
regions nodes = regions_from nodes 0 nodes
