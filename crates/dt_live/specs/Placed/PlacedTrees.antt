-- The tree while a source in dtc's language edits it (Devicetree Specification v0.4, section 6.3; where it is silent, dtc 1.6.1, tried
-- by hand): what the tables of a placed tree stand for.
use Rattle.std.specs.Prelude.{◌≡◌, ◌≢◌, ℕ, suc, ◌<◌, ◌≤◌, Bool, true, false, List, [], ◌∷◌, ◌++◌, length, map, reverse, Option, Some, None, IsSome, if◌then◌else◌, slice_index_or}
use Rattle.dt_source.specs.TreeMeaning.Paths.{Path}
use Rattle.dt_source.specs.TreeMeaning.Syntax.{Piece}
use Rattle.dt_source.specs.TreeMeaning.Edits.{Definition, definition, Label, labelled_at}
use Rattle.dt_source.specs.TreeMeaning.Places.{Row, row}
use Rattle.dt_source.specs.TreeMeaning.DtcEdits.{DtcTree}
use Rattle.dt_live.specs.Index.{row_of}
use Rattle.dt_live.specs.Rows.{Found}
use Rattle.dt_live.specs.declared.placed.place.Place.{Place}
use Rattle.dt_live.specs.declared.placed.placed_tree.PlacedTree.{PlacedTree}
use Rattle.dt_live.specs.Placed.Rows.{holds, is_there, path_of, place_at}
use Rattle.dt_live.specs.Placed.Tables.{IsTable, found_in, rows_in}

-- ---- the tree
abbrev pub root_rows : Bool → List (Row Path)
root_rows begun = if begun then row [] ∷ [] else []

abbrev pub node_seen : {X : Type 0} → List (Place X) → Place X → Row Path
node_seen nodes r = record { what = path_of nodes r.owner ++ r.name.now ∷ []; stands = is_there nodes r }

abbrev pub value_read : {V : Type 0} → (V → List Piece) → Option V → List Piece
value_read read None = []
value_read read (Some v) = read v

abbrev pub property_seen : {X V : Type 0} → (V → List Piece) → List (Place X) → Place V → Row (Definition (List Piece))
property_seen read nodes r = record { what = definition (path_of nodes r.owner) r.name.now (value_read read r.value); stands = is_there nodes r }

abbrev pub label_seen : {X L : Type 0} → List (Place X) → Place L → Row Label
label_seen nodes r = record { what = labelled_at r.name.now (path_of nodes r.owner); stands = is_there nodes r }

-- the tree that a placed tree shows, with its values read
abbrev pub dtc_tree : {V : Type 0} → (V → List Piece) → PlacedTree V → DtcTree
dtc_tree read d = record {
  nodes = root_rows d.begun ++ map (node_seen (rows_in d.nodes)) (rows_in d.nodes);
  properties = map (property_seen read (rows_in d.nodes)) (rows_in d.properties);
  labels = map (label_seen (rows_in d.nodes)) (rows_in d.labels);
  marked = map (path_of (rows_in d.nodes)) (reverse d.marks.items);
  fragments = d.fragments;
}

-- ---- what is true of each placed tree
-- a node that has something: its row counts, and it was made
abbrev pub IsOwner : {X : Type 0} → List (Place X) → Found → ℕ → Type 0
IsOwner nodes found n =
    (k : ℕ) → n ≡ suc k → (k < length nodes) × (found (place_at nodes k).owner (place_at nodes k).name.now ≡ Some k) × (1 ≤ (place_at nodes k).made)

pub record AreSound {N P L : Type 0} (nodes : List (Place N)) (at_nodes : Found) (properties : List (Place P)) (at_properties : Found) (labels : List (Place L)) (at_labels : Found) (clock : ℕ) : Type 0 where
  pub nodes_table : IsTable nodes at_nodes
  pub properties_table : IsTable properties at_properties
  pub labels_table : IsTable labels at_labels
  pub grown : (k : ℕ) → (place_at nodes k).owner ≤ k
  pub node_owners : (k : ℕ) → IsOwner nodes at_nodes (place_at nodes k).owner
  pub property_owners : (k : ℕ) → IsOwner nodes at_nodes (place_at properties k).owner
  pub label_owners : (k : ℕ) → IsOwner nodes at_nodes (place_at labels k).owner
  pub early : (k : ℕ) → (place_at nodes k).made ≤ clock
  pub early_properties : (k : ℕ) → (place_at properties k).made ≤ clock
  pub early_labels : (k : ℕ) → (place_at labels k).made ≤ clock
  pub ticking : 1 ≤ clock

-- ---- labels by name
-- of the first rows the last one of a name, none where none has it
abbrev pub IsLast : {X : Type 0} → List (Place X) → ℕ → List ℕ → Option ℕ → Type 0
IsLast rows n name None = (j : ℕ) → j < n → (place_at rows j).name.now ≢ name
IsLast rows n name (Some i) = (i < n) × ((place_at rows i).name.now ≡ name) × ((j : ℕ) → i < j → j < n → (place_at rows j).name.now ≢ name)

-- the last row of each name, and of each row the one before it of the same name
pub record AreChained {X : Type 0} (rows : List (Place X)) (heads : Found) (older : List (Option ℕ)) : Type 0 where
  pub count : length older ≡ length rows
  pub last : (name : List ℕ) → IsLast rows (length rows) name (heads 0 name)
  pub before : (i : ℕ) → i < length rows → IsLast rows i (place_at rows i).name.now (slice_index_or older i None)

-- what was made has a value
abbrev pub IsFilled : {X : Type 0} → Place X → Type 0
IsFilled r = 1 ≤ r.made → IsSome r.value

abbrev pub AreValued : {X : Type 0} → List (Place X) → Type 0
AreValued rows = (k : ℕ) → IsFilled (place_at rows k)

pub record IsPlacedTree {V : Type 0} (d : PlacedTree V) : Type 0 where
  pub tables : AreSound (rows_in d.nodes) (found_in d.nodes) (rows_in d.properties) (found_in d.properties) (rows_in d.labels) (found_in d.labels) d.clock
  pub marks : (k : ℕ) → IsOwner (rows_in d.nodes) (found_in d.nodes) (slice_index_or d.marks.items k 0)
  -- no label gets a second place at its node
  pub single : (k : ℕ) → (place_at (rows_in d.labels) k).again ≡ false
  pub chained : AreChained (rows_in d.labels) (row_of d.heads) d.older.items
  pub valued : AreValued (rows_in d.properties)

-- ---- nodes
abbrev pub node_path : {V : Type 0} → PlacedTree V → ℕ → Path
node_path d n = path_of (rows_in d.nodes) n

abbrev pub child_path : {V : Type 0} → PlacedTree V → ℕ → List ℕ → Path
child_path d n name = node_path d n ++ name ∷ []

-- the node stands
pub record IsStanding {V : Type 0} (d : PlacedTree V) (n : ℕ) : Type 0 where
  pub known : n ≤ length (rows_in d.nodes)
  pub there : holds (rows_in d.nodes) n ≡ true
