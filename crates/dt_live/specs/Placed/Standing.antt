-- What a placed tree leaves when all is read, as a live tree (Devicetree Specification v0.4, section 6.3; where it is silent, dtc 1.6.1,
-- tried by hand).
use Rattle.std.specs.Prelude.{◌≡◌, ℕ, ◌+◌, ◌<◌, ◌≤◌, All, Bool, true, false, ◌||◌, List, [], ◌∷◌, ◌++◌, drop, is_some, length, map, reverse, take, if◌then◌else◌, slice_index_or}
use Rattle.std.specs.List.{filter, flat_map, list_any}
use Rattle.std.specs.Str.{bytes_eq}
use Rattle.dt_source.specs.TreeMeaning.Paths.{Path, same_path}
use Rattle.dt_source.specs.TreeMeaning.Syntax.{Piece}
use Rattle.dt_source.specs.TreeMeaning.Edits.{Definition, definition, Label, labelled_at, State}
use Rattle.dt_source.specs.TreeMeaning.Places.{what_stands}
use Rattle.dt_source.specs.TreeMeaning.DtcStatements.{label_twice, same_label}
use Rattle.dt_source.specs.TreeMeaning.References.{preorder}
use Rattle.dt_live.specs.declared.index.Index.{Index}
use Rattle.dt_live.specs.declared.live_tree.LiveTree.{LiveTree}
use Rattle.dt_live.specs.Index.{row_of}
use Rattle.dt_live.specs.Rows.{IsNode, is_standing, state_of}
use Rattle.dt_live.specs.Rows as live
use Rattle.dt_live.specs.declared.placed.placed_tree.PlacedTree.{PlacedTree}
use Rattle.dt_live.specs.declared.placed.shown.Shown.{Shown}
use Rattle.dt_live.specs.Placed.Rows.{is_there, place_at}
use Rattle.dt_live.specs.Placed.Tables.{rows_in}
use Rattle.dt_live.specs.Placed.PlacedTrees.{label_seen, property_seen}
use Rattle.dt_live.specs.Placed.Shown.{AreNumbered, first_standing}

-- ---- properties
abbrev pub read_with : {V : Type 0} → (V → List Piece) → List (Definition V) → List (Definition (List Piece))
read_with read es = map (λ e. definition e.path e.name (read e.value)) es

-- the nodes that stand are shown, in the order of their places
pub record HasNodesOf {V W : Type 0} (d : PlacedTree V) (s : Shown W) : Type 0 where
  pub numbered : AreNumbered (rows_in d.nodes) (length (rows_in d.nodes)) s
  pub nodes_shown : (state_of s.live).nodes ≡ first_standing (rows_in d.nodes) (length (rows_in d.nodes))

-- and of the first properties those that stand; no label is
pub record HasProperties {V : Type 0} (d : PlacedTree V) (n : ℕ) (s : Shown V) : Type 0 where
  pub shown : HasNodesOf d s
  pub properties_shown : (read : V → List Piece) → read_with read (state_of s.live).properties ≡ what_stands (map (property_seen read (rows_in d.nodes)) (take n (rows_in d.properties)))
  pub unlabelled : (state_of s.live).labels ≡ []

-- ---- marks of nodes
-- each node that stands, the root among them, is marked if its path passes
pub record AreMarked {W : Type 0} (test : Path → Bool) (d : LiveTree W) (xs : List Bool) : Type 0 where
  pub count : length xs ≡ length d.nodes.items + 1
  pub marks : (n : ℕ) → IsNode d n → is_standing d n ≡ true → slice_index_or xs n false ≡ test (live.node_path d n)

-- one path more passes
abbrev pub or_at : Path → (Path → Bool) → Path → Bool
or_at p test q = same_path q p || test q

-- ---- labels
abbrev pub label_in : Definition ℕ → Label
label_in e = labelled_at e.name e.path

-- the label of a row
abbrev pub label_of : {V : Type 0} → PlacedTree V → ℕ → Label
label_of d row = (label_seen (rows_in d.nodes) (place_at (rows_in d.labels) row)).what

-- a row of a label, which stands
abbrev pub IsWornRow : {V : Type 0} → PlacedTree V → ℕ → Type 0
IsWornRow d row = (row < length (rows_in d.labels)) × (is_there (rows_in d.nodes) (place_at (rows_in d.labels) row) ≡ true)

-- a property whose value is the row of its label
abbrev pub IsOfRow : {V : Type 0} → PlacedTree V → Definition ℕ → Type 0
IsOfRow d e = IsWornRow d e.value × (label_of d e.value ≡ label_in e)

-- the nodes are shown, and the labels that stand from row n on as properties, the last first
pub record HasLabelRows {V : Type 0} (d : PlacedTree V) (n : ℕ) (s : Shown ℕ) : Type 0 where
  pub shown : HasNodesOf d s
  pub right : All (IsOfRow d) (state_of s.live).properties
  pub behind : All (λ e. n ≤ e.value) (state_of s.live).properties
  pub listed : map label_in (state_of s.live).properties ≡ what_stands (map (label_seen (rows_in d.nodes)) (reverse (drop n (rows_in d.labels))))

-- the labels that stand, node by node in preorder, a node's last one first
abbrev pub ordered_labels : {V : Type 0} → PlacedTree V → List Label
ordered_labels d =
    let worn = reverse (what_stands (map (label_seen (rows_in d.nodes)) (rows_in d.labels))) in
    flat_map (λ p. filter (λ l. same_path p l.path) worn) (preorder (first_standing (rows_in d.nodes) (length (rows_in d.nodes))))

-- those of them that are shown: without a root none is
abbrev pub shown_labels : {V : Type 0} → PlacedTree V → List Label
shown_labels d = if d.begun then ordered_labels d else []

-- their rows in that order
pub record AreOrdered {V : Type 0} (d : PlacedTree V) (rows : List ℕ) : Type 0 where
  pub worn : All (IsWornRow d) rows
  pub labels : map (label_of d) rows ≡ ordered_labels d

-- a label more is given, and all else stays
abbrev pub GivesLabel : {V W : Type 0} → PlacedTree V → ℕ → Shown W → Shown W → Type 0
GivesLabel d row old new =
    ((state_of new.live).labels ≡ (state_of old.live).labels ++ label_of d row ∷ []) × ((state_of new.live).properties ≡ (state_of old.live).properties)

-- one of the labels so far is the same word
abbrev pub is_taken : {V : Type 0} → PlacedTree V → ℕ → List Label → Bool
is_taken d row ls = list_any (same_label (label_of d row)) ls

-- ---- a label at two nodes
-- the labels of the first rows that stand
abbrev pub first_worn : {V : Type 0} → PlacedTree V → ℕ → List Label
first_worn d n = what_stands (map (label_seen (rows_in d.nodes)) (take n (rows_in d.labels)))

-- the labels that stand, in the order of their places
abbrev pub worn_labels : {V : Type 0} → PlacedTree V → List Label
worn_labels d = what_stands (map (label_seen (rows_in d.nodes)) (rows_in d.labels))

-- no two of the first are the same word, and at the node 0 an index has their words alone
pub record AreNoted {V : Type 0} (d : PlacedTree V) (n : ℕ) (words : Index) : Type 0 where
  pub once : label_twice (first_worn d n) ≡ false
  pub listed : (word : List ℕ) → is_some (row_of words 0 word) ≡ list_any (λ l. bytes_eq word l.label) (first_worn d n)

-- ---- all that stands
-- a state whose values are read
abbrev pub state_read : {V : Type 0} → (V → List Piece) → State V → State (List Piece)
state_read read s = record { nodes = s.nodes; properties = read_with read s.properties; labels = s.labels; fragments = s.fragments }
