-- What a single edit does to a placed tree (Devicetree Specification v0.4, section 6.3; where it is silent, dtc 1.6.1, tried by hand).
use Rattle.std.specs.Prelude.{◌≡◌, ℕ, suc, ◌+◌, ◌<◌, ◌≤◌, false, length, Result, Ok, Err, MatchResult}
use Rattle.dt_source.specs.TreeMeaning.Paths.{Path}
use Rattle.dt_source.specs.TreeMeaning.Statements.{Fault, DuplicateInBody}
use Rattle.dt_source.specs.TreeMeaning.DtcEdits.{DtcTree}
use Rattle.dt_live.specs.declared.placed.error.PlaceError.{PlaceError}
use Rattle.dt_live.specs.declared.placed.error.PlaceError.TheVariants as errors
use Rattle.dt_live.specs.declared.placed.placed_tree.PlacedTree.{PlacedTree}
use Rattle.dt_live.specs.Placed.Rows.{holds, place_at}
use Rattle.dt_live.specs.Placed.Tables.{found_in, rows_in}
use Rattle.dt_live.specs.Placed.PlacedTrees.{IsStanding, node_path}

-- want of memory says nothing of the meaning
abbrev pub IsPlaceFault : {A : Type 0} → PlaceError → Result A Fault → Type 0
IsPlaceFault errors.NoMemory r = Unit {0}
IsPlaceFault errors.DuplicateInBody r = r ≡ Err DuplicateInBody

-- a call leaves the tree that the meaning gives, or has its fault
abbrev pub Shows : {A : Type 0} → Result DtcTree Fault → DtcTree → Result A PlaceError → Type 0
Shows meant new result = MatchResult result (λ _. meant ≡ Ok new) (λ e. IsPlaceFault e meant)

-- ---- what stays
abbrev pub HasSameNodes : {V : Type 0} → PlacedTree V → PlacedTree V → Type 0
HasSameNodes old new = (rows_in new.nodes ≡ rows_in old.nodes) × (found_in new.nodes ≡ found_in old.nodes)

-- up to a node all that stands goes on standing, at the same path
pub record Keeps {V : Type 0} (n : ℕ) (old new : PlacedTree V) : Type 0 where
  pub more : length (rows_in old.nodes) ≤ length (rows_in new.nodes)
  pub paths : (k : ℕ) → k ≤ length (rows_in old.nodes) → node_path new k ≡ node_path old k
  pub stand : (k : ℕ) → k ≤ n → IsStanding old k → IsStanding new k

-- nothing is removed, and what doesn't stand was made when it was before
pub record Grows {V : Type 0} (old new : PlacedTree V) : Type 0 where
  pub owners : (k : ℕ) → k < length (rows_in old.nodes) → (place_at (rows_in new.nodes) k).owner ≡ (place_at (rows_in old.nodes) k).owner
  pub stand : (k : ℕ) → IsStanding old k → IsStanding new k
  pub rest : (k : ℕ) → holds (rows_in new.nodes) (suc k) ≡ false → (place_at (rows_in new.nodes) k).made ≡ (place_at (rows_in old.nodes) k).made

-- ---- the body with which a node begins
-- what doesn't stand below the node never did
abbrev pub IsFresh : {V : Type 0} → PlacedTree V → ℕ → Type 0
IsFresh d n = (k : ℕ) → (place_at (rows_in d.nodes) k).owner ≡ n → holds (rows_in d.nodes) (suc k) ≡ false → (place_at (rows_in d.nodes) k).made ≡ 0

-- the node is there, at the path, and behind its parent
pub record IsMade {V : Type 0} (d : PlacedTree V) (parent n : ℕ) (p : Path) : Type 0 where
  pub behind : parent < n
  pub standing : IsStanding d n
  pub path : node_path d n ≡ p

-- ---- fragments
abbrev pub counted_fragment : DtcTree → DtcTree
counted_fragment t = record t { fragments = t.fragments + 1 }
