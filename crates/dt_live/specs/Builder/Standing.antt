-- The nodes of a tree as a list of their paths, whatever their order (Devicetree Specification v0.4, section 2.2.3).
use Rattle.std.specs.Prelude.{◌≡◌, ℕ, ◌≤◌, Bool, true, false, not, ◌&&◌, List, [], ◌∷◌, ◌++◌, length, take}
use Rattle.std.specs.List.{list_any, flat_map}
use Rattle.dt_source.specs.TreeMeaning.Paths.{Path, is_listed}
use Rattle.dt_source.specs.TreeMeaning.References.{preorder, held}
use Rattle.dt_source.specs.TreeMeaning.Resolved.{Resolved, is_too_deep}

-- no path stands twice
abbrev pub are_apart : List Path → Bool
are_apart [] = true
are_apart (p ∷ ps) = not (is_listed p ps) && are_apart ps

-- the root isn't listed, each other node is once, and with it the one above it; no node is deeper than 64 levels
pub record AreNodes (nodes : List Path) : Type 0 where
  pub once : are_apart nodes ≡ true
  pub no_root : is_listed [] nodes ≡ false
  pub above : (p : Path) (n : List ℕ) → is_listed (p ++ n ∷ []) nodes ≡ true → is_listed p ([] ∷ nodes) ≡ true
  pub shallow : list_any is_too_deep nodes ≡ false

abbrev pub behind_root : List Path → List Path
behind_root [] = []
behind_root (p ∷ ps) = ps

-- the same nodes and properties in the order of the walk
abbrev pub walked : Resolved → Resolved
walked r = record { nodes = behind_root (preorder r.nodes); properties = flat_map (held r.properties) (preorder r.nodes) }

-- ---- one node after the other
-- the second path is that of a child of the node at the first, or of one above that
pub record Follows (p q : Path) : Type 0 where
  pub levels : ℕ
  pub within : levels ≤ length p
  pub name : List ℕ
  pub path : q ≡ take levels p ++ name ∷ []

abbrev pub AreFollowed : List Path → Type 0
AreFollowed [] = Unit {0}
AreFollowed (p ∷ []) = Unit {0}
AreFollowed (p ∷ q ∷ qs) = Follows p q × AreFollowed (q ∷ qs)
