-- How nodes side by side are kept, by their places.
use Rattle.std.specs.Prelude.{◌≡◌, ℕ, ◌<◌, length, List, [], ◌∷◌, ◌++◌, if◌then◌else◌, slice_index_or, slice_set, Vec}
use Rattle.std.specs.BTreeMap.{BTreeMap, get_by}
use Rattle.std.specs.Cmp.Lexicographic.{slice_cmp}
use Rattle.std.specs.Global.{Global}
use Rattle.std.specs.Option.{option_map_or}
use Rattle.std.specs.Ordering.{nat_cmp}
use denote.Ref.{Bor}
use Rattle.dt_check.specs.Nodes.{PlacedData}
use Rattle.dtman_check.specs.declared.table.units.Counted.{Counted}
use Rattle.dtman_check.specs.Table.Units.{is_unit, units_from}

-- a place behind those of one list
abbrev pub put_at : List (List ℕ) → ℕ → ℕ → List (List ℕ)
put_at lists at place = slice_set lists at (slice_index_or lists at [] ++ place ∷ [])

-- a node with a unit address behind the others below the same one
abbrev pub with_unit : Counted → PlacedData → ℕ → List (List ℕ) → List (List ℕ)
with_unit counted p place lists = option_map_or (λ above. if is_unit counted p.node then put_at lists above place else lists) p.above lists

-- these lists are those of the nodes with a unit address below each node
pub record AreUnitsBelow (counted : Counted) (nodes : List PlacedData) (lists : List (List ℕ)) : Type 0 where
  pub count : length lists ≡ length nodes
  pub units : (above : ℕ) → above < length nodes → slice_index_or lists above [] ≡ units_from counted above 0 nodes

-- the places that are kept of an address
abbrev pub places_at : BTreeMap (Bor (List ℕ)) (Vec ℕ Global) → List ℕ → List ℕ
places_at kept address = option_map_or (λ g. g.items) (get_by (λ k. slice_cmp nat_cmp address k.now) kept) []
