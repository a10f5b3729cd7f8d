-- A tree as rows: its nodes and properties in the order in which it is read (Devicetree Specification v0.4, sections 2.2 and 5.4).
use Rattle.std.specs.Prelude.{◌≡◌, ◌+◌, ◌≤◌, ◌<◌, ℕ, zero, suc, true, List, [], ◌∷◌, length, map, All, IsSome}
use denote.Ref.{Bor}
use Rattle.dt_tree.specs.Name.{is_name}
use Rattle.dt_tree.specs.NodeData.{NodeData}
use Rattle.dt_source.specs.TreeMeaning.Edits.{Definition, definition}
use Rattle.dt_source.specs.TreeMeaning.Resolved.{Resolved}
use Rattle.dt_live.specs.Builder.Lists.{lists_of}
use Rattle.dt_live.specs.Builder.Standing.{AreFollowed, AreNodes}
use Rattle.dt_live.specs.declared.live_tree.LiveTree.{LiveTree}
use Rattle.dt_live.specs.Rows.{IsLiveTree, path_of, stands, property_at, state_of}

-- values as a tree lends them
abbrev pub Lent : Type 0
Lent = Bor (List ℕ)

abbrev pub plain : Definition Lent → Definition (List ℕ)
plain e = definition e.path e.name e.value.now

-- the tree that a live tree shows, as lists
abbrev pub lists : LiveTree Lent → Resolved
lists d = record { nodes = (state_of d).nodes; properties = map plain (state_of d).properties }

-- so many numbers in a row
abbrev pub nodes_from : ℕ → ℕ → List ℕ
nodes_from k zero = []
nodes_from k (suc n) = k ∷ nodes_from (k + 1) n

-- the nodes below the root
abbrev pub first_nodes : ℕ → List ℕ
first_nodes n = nodes_from 1 n

-- a live tree from which nothing was removed: its rows are its nodes and properties
pub record IsWhole (d : LiveTree Lent) : Type 0 where
  pub sound : IsLiveTree d
  pub stand : (n : ℕ) → n ≤ length d.nodes.items → stands d.nodes.items n ≡ true
  pub valued : All (λ r. IsSome r.value) d.properties.items
  pub unlabelled : d.labels.items ≡ []
  pub named_nodes : All (λ r. is_name r.name.now ≡ true) d.nodes.items
  pub named_properties : All (λ r. is_name r.name.now ≡ true) d.properties.items

-- its nodes stand before those below them, and each one's properties before those of the nodes behind it
pub record IsOrdered (d : LiveTree Lent) : Type 0 where
  pub nodes : (lists d).nodes ≡ map (path_of d.nodes.items) (first_nodes (length d.nodes.items))
  pub once : AreNodes (lists d).nodes
  pub followed : AreFollowed (lists d).nodes
  pub properties : (i j : ℕ) → i ≤ j → j < length d.properties.items → (property_at d.properties.items i).node ≤ (property_at d.properties.items j).node

-- the rows of a tree
pub record IsFlattened (d : LiveTree Lent) (b : NodeData) : Type 0 where
  pub whole : IsWhole d
  pub ordered : IsOrdered d
  pub lists : lists d ≡ lists_of b
