-- The tree that is made of a live tree's rows, in the order of the walk (Devicetree Specification v0.4, sections 2.2 and 6.3).
use Rattle.std.specs.Prelude.{◌≡◌, ◌≤◌, ◌<◌, ◌-◌, ◌++◌, ℕ, true, List, [], ◌∷◌, length, map, drop, slice_index_or, codes, Option, None, Some, All}
use Rattle.std.specs.Int.{to_be_bytes, w32}
use Rattle.std.specs.List.{flat_map}
use Rattle.dt_tree.specs.Name.{is_name}
use Rattle.dt_tree.specs.Sound.{are_distinct}
use Rattle.dt_source.specs.TreeMeaning.Paths.{Path}
use Rattle.dt_source.specs.TreeMeaning.Edits.{Definition, definition}
use Rattle.dt_source.specs.TreeMeaning.References.{held, preorder}
use Rattle.dt_source.specs.TreeMeaning.Resolved.{Resolved}
use Rattle.dt_live.specs.Builder.Standing.{AreNodes}
use Rattle.dt_live.specs.declared.live_tree.LiveTree.{LiveTree}
use Rattle.dt_live.specs.declared.preorder.Preorder.{Preorder}
use Rattle.dt_live.specs.declared.preorder.properties.NodeProperty.{NodeProperty}
use Rattle.dt_live.specs.Rows.{IsLiveTree, IsNode, is_standing, node_path, row_at}

-- a tree as lists, what its live tree's properties are with their bytes, and the phandles that nodes get behind these
pub record Made : Type 0 where
  pub lists : Resolved
  pub plain : List (Definition (List ℕ))
  pub new_phandle : ℕ → Option ℕ

-- ---- values
abbrev pub values_in : {V : Type 0} → List (NodeProperty V) → List V
values_in xs = map (λ x. x.value) xs

-- the value is next, and these are its bytes: others are the bytes of the values behind it
abbrev pub IsNext : {V : Type 0} → (List V → List (List ℕ)) → (List V → List (List ℕ)) → V → List ℕ → Type 0
IsNext {V} old new v b = (vs : List V) → old (v ∷ vs) ≡ b ∷ new vs

-- properties with these bytes, none where there are too few, at the paths of their nodes
abbrev pub entries : {V : Type 0} → (ℕ → Path) → List (NodeProperty V) → List (List ℕ) → List (Definition (List ℕ))
entries path [] bs = []
entries path (x ∷ xs) bs = definition (path x.node) x.name.now (slice_index_or bs 0 []) ∷ entries path xs (drop 1 bs)

abbrev pub phandle_at : Path → Option ℕ → List (Definition (List ℕ))
phandle_at q None = []
phandle_at q (Some n) = definition q (codes "phandle") (to_be_bytes w32 n) ∷ []

-- ---- the order
-- a live tree whose nodes and properties are in preorder, and the tree that is made of it
pub record IsInPreorder {V : Type 0} (d : LiveTree V) (y : Preorder V) (m : Made) : Type 0 where
  pub sound : IsLiveTree d
  pub nodes : map (node_path d) y.nodes.items ≡ preorder m.lists.nodes
  pub standing : AreNodes m.lists.nodes
  pub known : All (λ n. IsNode d n) y.nodes.items
  pub there : All (λ n. is_standing d n ≡ true) y.nodes.items
  pub stand : All (λ x. is_standing d x.node ≡ true) y.properties.items
  pub named_nodes : (k n : ℕ) → 1 ≤ k → k < length y.nodes.items → n ≡ slice_index_or y.nodes.items k n → is_name (row_at d.nodes.items (n - 1)).name.now ≡ true
  pub named : All (λ x. is_name x.name.now ≡ true) y.properties.items
  pub apart : (q : Path) → are_distinct (map (λ e. e.name) (held m.lists.properties q)) ≡ true
  pub own : (n : ℕ) → IsNode d n → is_standing d n ≡ true → held m.lists.properties (node_path d n) ≡ held m.plain (node_path d n) ++ phandle_at (node_path d n) (m.new_phandle n)

-- the properties from one place on have the bytes of those of the nodes from the other on
pub record IsRest {V : Type 0} (d : LiveTree V) (y : Preorder V) (m : Made) (bytes_of : List V → List (List ℕ)) (k property : ℕ) : Type 0 where
  pub within : property ≤ length y.properties.items
  pub bytes : entries (node_path d) (drop property y.properties.items) (bytes_of (values_in (drop property y.properties.items))) ≡ flat_map (held m.plain) (drop k (preorder m.lists.nodes))
