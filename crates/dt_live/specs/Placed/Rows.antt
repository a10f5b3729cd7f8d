-- Rows that keep their place, and what stands at them (Devicetree Specification v0.4, section 6.3; where it is silent, dtc 1.6.1, tried
-- by hand). What is made is there until it is removed, or until its node is made anew.
use Rattle.std.specs.Prelude.{ℕ, zero, suc, Bool, true, false, not, ◌&&◌, nat_le, List, [], ◌∷◌, ◌++◌, None, slice_index_or}
use Rattle.dt_source.specs.TreeMeaning.Paths.{Path}
use Rattle.dt_live.specs.declared.placed.place.Place.{Place}

-- the row that stands where there is none
abbrev pub no_place : {X : Type 0} → Place X
no_place = record { owner = 0; name = record { ref_ptr = (0, 0); now = [] }; value = None; made = 0; removed = true; again = false }

abbrev pub place_at : {X : Type 0} → List (Place X) → ℕ → Place X
place_at rows k = slice_index_or rows k no_place

-- ---- paths: node k + 1 has row k, node 0 is the root
-- the names of a node's path, by at most so many steps up
abbrev pub climb : {X : Type 0} → ℕ → List (Place X) → ℕ → Path
climb zero rows n = []
climb (suc f) rows zero = []
climb (suc f) rows (suc k) = climb f rows (place_at rows k).owner ++ (place_at rows k).name.now ∷ []

abbrev pub path_of : {X : Type 0} → List (Place X) → ℕ → Path
path_of rows n = climb n rows n

-- ---- what stands
-- when a node was made last
abbrev pub made_at : {X : Type 0} → List (Place X) → ℕ → ℕ
made_at rows zero = 1
made_at rows (suc k) = (place_at rows k).made

-- made since its node was made last, and not removed
abbrev pub is_made : {U X : Type 0} → List (Place U) → Place X → Bool
is_made nodes r = not r.removed && nat_le (made_at nodes r.owner) r.made

-- the node, and each one above it
abbrev pub holds_by : {X : Type 0} → ℕ → List (Place X) → ℕ → Bool
holds_by zero rows n = true
holds_by (suc f) rows zero = true
holds_by (suc f) rows (suc k) = is_made rows (place_at rows k) && holds_by f rows (place_at rows k).owner

abbrev pub holds : {X : Type 0} → List (Place X) → ℕ → Bool
holds rows n = holds_by n rows n

-- the row and its node
abbrev pub is_there : {U X : Type 0} → List (Place U) → Place X → Bool
is_there nodes r = is_made nodes r && holds nodes r.owner
