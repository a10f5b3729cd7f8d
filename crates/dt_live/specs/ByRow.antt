-- The rows of a live tree as nodes and properties of its tree (Devicetree Specification v0.4, sections 2.2 and 5.4).
use Rattle.std.specs.Prelude.{◌≡◌, ℕ, Bool, true, not, ◌&&◌, List, [], Option, Some, None, is_some}
use Rattle.std.specs.List.{list_all}
use Rattle.dt_tree.specs.Name.{is_name}
use Rattle.dt_source.specs.TreeMeaning.Edits.{Definition, definition}
use Rattle.dt_live.specs.declared.live_tree.LiveTree.{LiveTree}
use Rattle.dt_live.specs.declared.live_tree.NodeRow.{NodeRow}
use Rattle.dt_live.specs.declared.live_tree.PropertyRow.{PropertyRow}
use Rattle.dt_live.specs.Rows.{node_path, property_at}
use Rattle.dt_live.specs.Flattened.{Lent}

-- the bytes that a row lends
abbrev pub lent : Option Lent → List ℕ
lent None = []
lent (Some v) = v.now

-- the property of a row
abbrev pub defined_by : LiveTree Lent → PropertyRow Lent → Definition (List ℕ)
defined_by d r = definition (node_path d r.node) r.name.now (lent r.value)

-- the property of row k
abbrev pub row_property : LiveTree Lent → ℕ → Definition (List ℕ)
row_property d k = defined_by d (property_at d.properties.items k)

-- no row was removed
abbrev pub have_all_rows : {V : Type 0} → List NodeRow → List (PropertyRow V) → Bool
have_all_rows nodes properties = list_all (λ r. not r.removed) nodes && list_all (λ r. is_some r.value) properties

abbrev pub has_all_rows : {V : Type 0} → LiveTree V → Bool
has_all_rows d = have_all_rows d.nodes.items d.properties.items

-- an edit removes no row: a live tree that had all of its rows has all
abbrev pub KeepsRows : {V : Type 0} → LiveTree V → LiveTree V → Type 0
KeepsRows old new = has_all_rows old ≡ true → has_all_rows new ≡ true

-- the property's name is lawful
abbrev pub is_named : Definition (List ℕ) → Bool
is_named e = is_name e.name
