-- What a tree builder holds: the nodes from the root down to the last node, each without the next, which is its last child.
use Rattle.std.specs.Prelude.{◌≡◌, ℕ, ◌+◌, ◌-◌, ◌≤◌, Bool, true, not, ◌==◌, List, [], ◌∷◌, ◌++◌, length, map, take}
use Rattle.std.specs.List.{list_all}
use Rattle.dt_tree.specs.Limits.{depth_limit}
use Rattle.dt_tree.specs.declared.property.Property.{Property}
use Rattle.dt_tree.specs.NodeData.{Siblings, none, more, NodeData, node_data, child_names, property_names, height_of}
use Rattle.dt_tree.specs.Sound.{are_distinct}
use Rattle.dt_source.specs.TreeMeaning.Paths.{Path}
use Rattle.dt_source.specs.TreeMeaning.Resolved.{Resolved}
use Rattle.dt_live.specs.Builder.Lists.{lists_of, with_last}

-- nodes side by side, and others behind them
abbrev pub beside : Siblings → Siblings → Siblings
beside none g = g
beside (more n p c rest) g = more n p c (beside rest g)

-- each as the last child of the one before
abbrev pub chained : List NodeData → Siblings
chained [] = none
chained (b ∷ bs) = more b.name b.properties (beside b.children (chained bs)) none

-- the whole tree
abbrev pub tree_of : List NodeData → NodeData
tree_of [] = node_data [] [] none
tree_of (b ∷ bs) = node_data b.name b.properties (beside b.children (chained bs))

abbrev pub names_of : List NodeData → Path
names_of bs = map (λ b. b.name) bs

-- the path of the last node
abbrev pub last_path : List NodeData → Path
last_path [] = []
last_path (b ∷ bs) = names_of bs

-- the nodes and the properties so far, in the order in which they were put there
abbrev pub built_lists : List NodeData → Resolved
built_lists bs = lists_of (tree_of bs)

-- the path of the node right above the last
abbrev pub parent_path : List NodeData → Path
parent_path bs = take (length (last_path bs) - 1) (last_path bs)

-- the path of a next node so many levels below the root
abbrev pub next_path : List NodeData → ℕ → List ℕ → Path
next_path bs depth name = take (depth - 1) (last_path bs) ++ name ∷ []

-- one node more, with its properties, behind all others
abbrev pub GainsNode : Path → List Property → List NodeData → List NodeData → Type 0
GainsNode p properties old new = built_lists new ≡ with_last p properties (built_lists old)

-- ---- what is true of each tree builder
abbrev pub is_filled : List ℕ → Bool
is_filled n = not (length n == 0)

-- names of siblings
pub record AreApart (ns : List (List ℕ)) : Type 0 where
  pub named : list_all is_filled ns ≡ true
  pub distinct : are_distinct ns ≡ true

abbrev pub AreOpen : List NodeData → Type 0
AreOpen [] = Unit {0}
AreOpen (b ∷ bs) = (are_distinct (property_names b.properties) ≡ true) × AreApart (child_names (beside b.children (chained bs))) × AreOpen bs

-- one of the levels is the root's
pub record IsTreeBuilder (bs : List NodeData) : Type 0 where
  pub parts : AreOpen bs
  pub shallow : height_of (chained bs) ≤ depth_limit + 1
  pub root : (tree_of bs).name ≡ []
