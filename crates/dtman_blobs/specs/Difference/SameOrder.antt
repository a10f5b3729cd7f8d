-- When two boards are the same in order, too. Order has no meaning in a tree (Devicetree Specification v0.4, section 2.2), but its structure
-- block keeps one (section 5.4), and what walks it meets nodes and properties in that order.
use Rattle.std.specs.Prelude.{◌≡◌, ◌↔◌, ℕ, not, List, Option, filter}
use Rattle.std.specs.Option.{option_map}
use Rattle.dt_tree.specs.PathMap.{PathMap, path_map}
use Rattle.dt_tree.specs.TreeData.{TreeData}
use Rattle.dtman_blobs.specs.Difference.SameBoard.{IsSameBoard, is_own_phandle}

-- the names of the properties at a path, in order, but for those that give nodes their phandles
abbrev pub counted_at : PathMap (List ℕ) → List (List ℕ) → Option (List (List ℕ))
counted_at m path = option_map (λ names. filter (λ n. not (is_own_phandle n)) names) (m.properties path)

-- at each path the names of properties and of children stand in one order
pub record AreInOneOrder (m m' : PathMap (List ℕ)) : Type 0 where
  pub properties : (path : List (List ℕ)) → counted_at m path ≡ counted_at m' path
  pub children : (path : List (List ℕ)) → m.children path ≡ m'.children path

pub record IsSameInOrder (a b : TreeData) : Type 0 where
  pub board : IsSameBoard a b
  pub order : AreInOneOrder (path_map a.root) (path_map b.root)

-- of one board, nothing stands in another order exactly where all is in one order
abbrev pub TellsOrder : TreeData → TreeData → ℕ → Type 0
TellsOrder a b moved = IsSameBoard a b → ((moved ≡ 0) ↔ AreInOneOrder (path_map a.root) (path_map b.root))
