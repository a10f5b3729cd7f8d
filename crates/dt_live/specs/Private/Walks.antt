-- The rows of a live tree by node, and their walk.
use Rattle.std.specs.Prelude.{◌≡◌, ℕ, zero, suc, not, ◌&&◌, ◌==◌, List, [], ◌∷◌, ◌++◌, Option, Some, None, if◌then◌else◌, length}
use Rattle.std.specs.List.{flat_map}
use denote.Ref.{Bor}
use Rattle.dt_live.specs.declared.live_tree.NodeRow.{NodeRow}
use Rattle.dt_live.specs.declared.live_tree.PropertyRow.{PropertyRow}
use Rattle.dt_live.specs.declared.preorder.lists.Lists.{Lists}
use Rattle.dt_live.specs.Rows.{row_at, property_at}
use Rattle.dt_live.specs.Private.Lists.{list_of}
use Rattle.dt_live.specs.declared.preorder.properties.NodeProperty.{NodeProperty}

-- the children of a node among the first rows, without those that were removed themselves
abbrev pub children_to : List NodeRow → ℕ → ℕ → List ℕ
children_to rows zero n = []
children_to rows (suc k) n = children_to rows k n ++ (if not (row_at rows k).removed && (n == (row_at rows k).parent) then suc k ∷ [] else [])

-- the properties of a node among the first rows
abbrev pub properties_to : {V : Type 0} → List (PropertyRow V) → ℕ → ℕ → List ℕ
properties_to rows zero n = []
properties_to rows (suc k) n = properties_to rows k n ++ (if n == (property_at rows k).node then k ∷ [] else [])

-- a node, then its children with all below each, down to so many levels
abbrev pub rows_walk : ℕ → (ℕ → List ℕ) → ℕ → List ℕ
rows_walk zero children n = n ∷ []
rows_walk (suc levels) children n = n ∷ flat_map (rows_walk levels children) (children n)

-- a row that wasn't removed
abbrev pub node_property_of : {V : Type 0} → ℕ → Bor (List ℕ) → Option V → List (NodeProperty V)
node_property_of node name None = []
node_property_of node name (Some v) = record { node = node; name = name; value = v } ∷ []

abbrev pub node_property_at : {V : Type 0} → List (PropertyRow V) → ℕ → List (NodeProperty V)
node_property_at rows i = node_property_of (property_at rows i).node (property_at rows i).name (property_at rows i).value

-- the properties at places
abbrev pub held_at : {V : Type 0} → List (PropertyRow V) → List ℕ → List (NodeProperty V)
held_at rows places = flat_map (node_property_at rows) places

-- the properties of a node
abbrev pub held_by : {V : Type 0} → List (PropertyRow V) → ℕ → List (NodeProperty V)
held_by rows n = held_at rows (properties_to rows (length rows) n)

-- the list of each node is that of its children, or of the rows of its properties
abbrev pub AreChildren : List NodeRow → Lists → Type 0
AreChildren rows lists = (n : ℕ) → list_of lists n ≡ children_to rows (length rows) n

abbrev pub ArePropertyRows : {V : Type 0} → List (PropertyRow V) → Lists → Type 0
ArePropertyRows rows lists = (n : ℕ) → list_of lists n ≡ properties_to rows (length rows) n
