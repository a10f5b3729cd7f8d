-- When two trees are the same board: the same nodes with the same properties stand at the same paths, in any order. A phandle counts as
-- the path of the node that it names, so the properties that give nodes their phandles (Devicetree Specification v0.4, section 2.3.3) don't count.
use Rattle.std.specs.Prelude.{◌≡◌, ℕ, Bool, false, ◌||◌, List, Option, codes}
use Rattle.std.specs.Option.{option_map}
use Rattle.std.specs.Str.{bytes_eq}
use Rattle.dt_tree.specs.PathMap.{PathMap, path_map}
use Rattle.dt_tree.specs.TreeData.{TreeData}
use Rattle.dtman_blobs.specs.Difference.Named.{NamedNode, named_by}
use Rattle.dtman_blobs.specs.Difference.Seen.{Part, seen}

-- a property that gives its node's phandle
abbrev pub is_own_phandle : List ℕ → Bool
is_own_phandle name = bytes_eq name (codes "phandle") || bytes_eq name (codes "linux,phandle")

-- the value at a path under a name, as it is seen
abbrev pub seen_at : (ℕ → Option NamedNode) → PathMap (List ℕ) → List (List ℕ) → List ℕ → Option (List Part)
seen_at named_by m path name = option_map (seen named_by name) (m.value path name)

-- the same nodes, and the same values as they are seen
pub record AreSameNodes (named_by named_by' : ℕ → Option NamedNode) (m m' : PathMap (List ℕ)) : Type 0 where
  pub has : (path : List (List ℕ)) → m.has path ≡ m'.has path
  pub value : (path : List (List ℕ)) (name : List ℕ) → is_own_phandle name ≡ false → seen_at named_by m path name ≡ seen_at named_by' m' path name

-- and the same reservations in their order, and the same processor boots
pub record IsSameBoard (a b : TreeData) : Type 0 where
  pub nodes : AreSameNodes (named_by a.root) (named_by b.root) (path_map a.root) (path_map b.root)
  pub reserves : a.reserves ≡ b.reserves
  pub boot_cpu : a.boot_cpu ≡ b.boot_cpu
