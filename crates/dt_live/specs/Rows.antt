-- What the rows of a live tree stand for.
use Rattle.std.specs.Prelude.{◌≡◌, ℕ, zero, suc, ◌<◌, ◌≤◌, Bool, true, false, not, ◌&&◌, List, [], ◌∷◌, ◌++◌, length, Option, Some, None, IsSome, if◌then◌else◌, slice_index_or, MatchOption}
use Rattle.dt_source.specs.TreeMeaning.Paths.{Path, is_below, is_within}
use Rattle.dt_source.specs.TreeMeaning.Edits.{Definition, definition, Label, labelled_at, State, has_node, with_node, with_property, without_node}
use Rattle.dt_live.specs.declared.live_tree.NodeRow.{NodeRow}
use Rattle.dt_live.specs.declared.live_tree.PropertyRow.{PropertyRow}
use Rattle.dt_live.specs.declared.live_tree.LabelRow.{LabelRow}
use Rattle.dt_live.specs.declared.live_tree.LiveTree.{LiveTree}
use Rattle.dt_live.specs.Index.{row_of, stamp_of}

-- ---- nodes
-- the row that stands where there is none
abbrev pub no_row : NodeRow
no_row = record { parent = 0; name = record { ref_ptr = (0, 0); now = [] }; removed = true; at = 0 }

-- node k + 1 has row k
abbrev pub row_at : List NodeRow → ℕ → NodeRow
row_at rows k = slice_index_or rows k no_row

-- the names of a node's path, by at most so many steps up
abbrev pub climb : ℕ → List NodeRow → ℕ → Path
climb zero rows n = []
climb (suc f) rows zero = []
climb (suc f) rows (suc k) = climb f rows (row_at rows k).parent ++ (row_at rows k).name.now ∷ []

abbrev pub path_of : List NodeRow → ℕ → Path
path_of rows n = climb n rows n

-- neither the node nor one above it was removed
abbrev pub stands_by : ℕ → List NodeRow → ℕ → Bool
stands_by zero rows n = true
stands_by (suc f) rows zero = true
stands_by (suc f) rows (suc k) = not (row_at rows k).removed && stands_by f rows (row_at rows k).parent

abbrev pub stands : List NodeRow → ℕ → Bool
stands rows n = stands_by n rows n

-- the paths of the first nodes that stand
abbrev pub standing : (ℕ → Path) → (ℕ → Bool) → ℕ → List Path
standing path is_there zero = []
standing path is_there (suc k) = standing path is_there k ++ (if is_there (suc k) then path (suc k) ∷ [] else [])

-- ---- properties
abbrev pub valued : {V : Type 0} → Path → List ℕ → Option V → List (Definition V)
valued p n None = []
valued p n (Some v) = definition p n v ∷ []

-- the properties of nodes that stand
abbrev pub standing_properties : {V : Type 0} → (ℕ → Path) → (ℕ → Bool) → List (PropertyRow V) → List (Definition V)
standing_properties path is_there [] = []
standing_properties path is_there (r ∷ rs) = (if is_there r.node then valued (path r.node) r.name.now r.value else []) ++ standing_properties path is_there rs

abbrev pub no_property : {V : Type 0} → PropertyRow V
no_property = record { node = 0; name = record { ref_ptr = (0, 0); now = [] }; value = None }

abbrev pub property_at : {V : Type 0} → List (PropertyRow V) → ℕ → PropertyRow V
property_at rows k = slice_index_or rows k no_property

-- ---- labels
-- the labels of nodes that stand
abbrev pub worn : (ℕ → Path) → (ℕ → Bool) → List LabelRow → List Label
worn path is_there [] = []
worn path is_there (r ∷ rs) = (if is_there r.node then labelled_at r.label.now (path r.node) ∷ [] else []) ++ worn path is_there rs

abbrev pub no_label : LabelRow
no_label = record { label = record { ref_ptr = (0, 0); now = [] }; node = 0 }

abbrev pub label_at : List LabelRow → ℕ → LabelRow
label_at rows k = slice_index_or rows k no_label

-- ---- all
abbrev pub state_by : {V : Type 0} → (ℕ → Path) → (ℕ → Bool) → ℕ → List (PropertyRow V) → List LabelRow → State V
state_by path is_there n ps ls =
    record { nodes = standing path is_there n; properties = standing_properties path is_there ps; labels = worn path is_there ls; fragments = 0 }

abbrev pub state_in : {V : Type 0} → List NodeRow → List (PropertyRow V) → List LabelRow → State V
state_in rows ps ls = state_by (path_of rows) (stands rows) (length rows) ps ls

abbrev pub state_of : {V : Type 0} → LiveTree V → State V
state_of d = state_in d.nodes.items d.properties.items d.labels.items

-- ---- what is true of each live tree
-- a row stands behind its parent's
abbrev pub IsGrown : List NodeRow → Type 0
IsGrown rows = (k : ℕ) → (row_at rows k).parent ≤ k

-- the row that an index has at a node and a name
abbrev pub Found : Type 0
Found = ℕ → List ℕ → Option ℕ

-- the index has exactly the nodes that weren't removed themselves
pub record IsNodeIndex (rows : List NodeRow) (found : Found) : Type 0 where
  pub right : (n : ℕ) (k : List ℕ) (m : ℕ) → found n k ≡ Some m → (i : ℕ) × (m ≡ suc i) × (i < length rows) × ((row_at rows i).parent ≡ n) × ((row_at rows i).name.now ≡ k) × ((row_at rows i).removed ≡ false)
  pub whole : (i : ℕ) → (row_at rows i).removed ≡ false → found (row_at rows i).parent (row_at rows i).name.now ≡ Some (suc i)

-- the index has exactly the properties that weren't removed
pub record IsPropertyIndex {V : Type 0} (rows : List (PropertyRow V)) (found : Found) : Type 0 where
  pub right : (n : ℕ) (k : List ℕ) (i : ℕ) → found n k ≡ Some i → (i < length rows) × ((property_at rows i).node ≡ n) × ((property_at rows i).name.now ≡ k) × IsSome (property_at rows i).value
  pub whole : (i : ℕ) → IsSome (property_at rows i).value → found (property_at rows i).node (property_at rows i).name.now ≡ Some i

-- the index has each label of a node that stands, at the node 0; it may have others
pub record IsLabelIndex (is_there : ℕ → Bool) (rows : List LabelRow) (found : Found) : Type 0 where
  pub right : (k : List ℕ) (i : ℕ) → found 0 k ≡ Some i → (i < length rows) × ((label_at rows i).label.now ≡ k)
  pub whole : (i : ℕ) → i < length rows → is_there (label_at rows i).node ≡ true → found 0 (label_at rows i).label.now ≡ Some i

-- the tables and their indexes belong together
pub record AreTables {V : Type 0} (rows : List NodeRow) (ps : List (PropertyRow V)) (ls : List LabelRow) (at_nodes at_properties at_labels : Found) : Type 0 where
  pub grown : IsGrown rows
  pub nodes : IsNodeIndex rows at_nodes
  pub properties : IsPropertyIndex ps at_properties
  pub labels : IsLabelIndex (stands rows) ls at_labels
  pub known : (i : ℕ) → (property_at ps i).node ≤ length rows
  pub known_labels : (i : ℕ) → (label_at ls i).node ≤ length rows

abbrev pub IsLiveTree : {V : Type 0} → LiveTree V → Type 0
IsLiveTree d = AreTables d.nodes.items d.properties.items d.labels.items (row_of d.node_rows) (row_of d.property_rows) (row_of d.label_rows)

-- what an edit below the node at p keeps: rows, paths, and that all nodes stand that aren't strictly below it
pub record Kept (p : Path) (old new : List NodeRow) : Type 0 where
  pub more : length old ≤ length new
  pub paths : (k : ℕ) → k ≤ length old → path_of new k ≡ path_of old k
  pub stand : (k : ℕ) → k ≤ length old → stands old k ≡ true → is_below p (path_of old k) ≡ false → stands new k ≡ true

-- what stands once the node at p is gone, and all below it: rows keep their paths
pub record Taken (p : Path) (old new : List NodeRow) : Type 0 where
  pub count : length new ≡ length old
  pub paths : (k : ℕ) → path_of new k ≡ path_of old k
  pub stand : (k : ℕ) → k ≤ length old → stands new k ≡ (stands old k && not (is_within p (path_of old k)))

-- ---- words for a live tree as a whole
-- the path of a node
abbrev pub node_path : {V : Type 0} → LiveTree V → ℕ → Path
node_path d n = path_of d.nodes.items n

-- it is a node
abbrev pub IsNode : {V : Type 0} → LiveTree V → ℕ → Type 0
IsNode d n = n ≤ length d.nodes.items

abbrev pub is_standing : {V : Type 0} → LiveTree V → ℕ → Bool
is_standing d n = stands d.nodes.items n

abbrev pub IsKept : {V : Type 0} → Path → LiveTree V → LiveTree V → Type 0
IsKept p old new = Kept p old.nodes.items new.nodes.items

abbrev pub IsTaken : {V : Type 0} → Path → LiveTree V → LiveTree V → Type 0
IsTaken p old new = Taken p old.nodes.items new.nodes.items

abbrev pub HasSameNodes : {V : Type 0} → LiveTree V → LiveTree V → Type 0
HasSameNodes old new = new.nodes.items ≡ old.nodes.items

-- the node that a path leads to, none where none stands there
abbrev pub IsNodeAt : {V : Type 0} → LiveTree V → Path → Option ℕ → Type 0
IsNodeAt d p found = MatchOption found (has_node p (state_of d) ≡ false) (λ node. (has_node p (state_of d) ≡ true) × (p ≡ node_path d node))

-- the path of a child, whether it is there or not
abbrev pub child_path : {V : Type 0} → LiveTree V → ℕ → List ℕ → Path
child_path d n k = node_path d n ++ k ∷ []

-- ---- edits
-- a node is there, behind the others where it wasn't
abbrev pub AddsNode : {V : Type 0} → Path → LiveTree V → LiveTree V → Type 0
AddsNode p old new = state_of new ≡ with_node p (state_of old)

-- a node is gone, and all below it
abbrev pub RemovesNode : {V : Type 0} → Path → LiveTree V → LiveTree V → Type 0
RemovesNode p old new = state_of new ≡ without_node p (state_of old)

-- the node at a path has a property's value, in its place or behind the others
abbrev pub SetsProperty : {V : Type 0} → Path → List ℕ → V → LiveTree V → LiveTree V → Type 0
SetsProperty p k v old new = state_of new ≡ with_property p k v (state_of old)

-- ---- rows and stamps
-- the child of a name
abbrev pub child_of : {V : Type 0} → LiveTree V → ℕ → List ℕ → Option ℕ
child_of d n k = row_of d.node_rows n k

-- the row of the property of a name
abbrev pub property_of : {V : Type 0} → LiveTree V → ℕ → List ℕ → Option ℕ
property_of d n k = row_of d.property_rows n k

-- the body that defined a child or a property of a node last, 0 for none
abbrev pub child_stamp : {V : Type 0} → LiveTree V → ℕ → List ℕ → ℕ
child_stamp d n k = stamp_of d.node_rows n k

abbrev pub property_stamp : {V : Type 0} → LiveTree V → ℕ → List ℕ → ℕ
property_stamp d n k = stamp_of d.property_rows n k

-- both are the same at each name of each node
abbrev pub HasSameChildStamps : {V : Type 0} → LiveTree V → LiveTree V → Type 0
HasSameChildStamps old new = (n : ℕ) (k : List ℕ) → child_stamp new n k ≡ child_stamp old n k

abbrev pub HasSamePropertyStamps : {V : Type 0} → LiveTree V → LiveTree V → Type 0
HasSamePropertyStamps old new = (n : ℕ) (k : List ℕ) → property_stamp new n k ≡ property_stamp old n k

-- no body has begun, so that the first gets the stamp 1
abbrev pub IsUnbegun : {V : Type 0} → LiveTree V → Type 0
IsUnbegun d = d.stamps ≡ 0

-- no definition has a stamp above the last
abbrev pub IsStamped : {V : Type 0} → LiveTree V → Type 0
IsStamped d = (n : ℕ) (k : List ℕ) → (child_stamp d n k ≤ d.stamps) × (property_stamp d n k ≤ d.stamps)
