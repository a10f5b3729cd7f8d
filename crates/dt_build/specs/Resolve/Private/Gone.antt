-- The nodes that go when all is read, and what is left, by rows (Devicetree Specification v0.4, section 6.3; where it is silent,
-- dtc 1.6.1, tried by hand).
use Rattle.std.specs.Prelude.{◌≡◌, ◌<◌, ◌≤◌, ◌==◌, ℕ, zero, suc, Bool, true, false, not, ◌&&◌, List, [], ◌∷◌, ◌++◌, length, drop, slice_index_or, Option, Some, None, if◌then◌else◌}
use Rattle.std.specs.List.{filter, list_any}
use Rattle.dt_source.specs.declared.tree.Part.{Part}
use Rattle.dt_source.specs.TreeMeaning.Paths.{Path}
use Rattle.dt_source.specs.TreeMeaning.Edits.{State}
use Rattle.dt_source.specs.TreeMeaning.DtcResolved.{is_left}
use Rattle.dt_live.specs.declared.live_tree.LiveTree.{LiveTree}
use Rattle.dt_live.specs.declared.live_tree.NodeRow.{NodeRow}
use Rattle.dt_live.specs.declared.preorder.properties.NodeProperty.{NodeProperty}
use Rattle.dt_live.specs.Rows.{is_standing, path_of, stands, state_of}
use Rattle.dt_build.specs.declared.edit.standing.Standing.{Standing}
use Rattle.dt_build.specs.Edit.Said.{Parts}
use Rattle.dt_build.specs.Resolve.Founds.{uses, all_uses}

-- ---- nodes that go
-- the target is one of so many nodes, where there is one
abbrev pub IsBelow : ℕ → Option ℕ → Type 0
IsBelow count None = Unit {0}
IsBelow count (Some n) = n < count

abbrev pub is_target : ℕ → Option ℕ → Bool
is_target n None = false
is_target n (Some m) = m == n

abbrev pub is_marked : List Bool → ℕ → Bool
is_marked marks n = slice_index_or marks n false

-- a marked node goes if no reference names it; with symbols, only if it never had a label
abbrev pub goes_by : (ℕ → Bool) → Standing → Bool → ℕ → Bool
goes_by is_named s symbols n = is_marked s.marked.items n && not (is_named n) && not (symbols && is_marked s.labelled.items n)

-- the rows that pass, of the first ones
abbrev pub rows_to : (ℕ → Bool) → ℕ → List ℕ
rows_to test zero = []
rows_to test (suc k) = rows_to test k ++ (if test (suc k) then suc k ∷ [] else [])

abbrev pub gone_rows : Standing → List (Option ℕ) → Bool → List ℕ
gone_rows s ts symbols =
    rows_to (λ n. is_standing s.live n && goes_by (λ m. list_any (is_target m) ts) s symbols n) (length s.live.nodes.items)

-- ---- what is left
abbrev pub left_of : {V : Type 0} → List Path → State V → State V
left_of gone s = record s {
  nodes = filter (is_left gone) s.nodes;
  properties = filter (λ e. is_left gone e.path) s.properties;
  labels = filter (λ l. is_left gone l.path) s.labels;
}

-- rows keep their paths, and those stand that stood and are left
pub record LeavesRows (gone : List Path) (old new : List NodeRow) : Type 0 where
  pub count : length new ≡ length old
  pub paths : (k : ℕ) → path_of new k ≡ path_of old k
  pub stand : (k : ℕ) → k ≤ length old → stands new k ≡ (stands old k && is_left gone (path_of old k))

pub record Leaves (gone : List Path) (old new : LiveTree Parts) : Type 0 where
  pub rows : LeavesRows gone old.nodes.items new.nodes.items
  pub state : state_of new ≡ left_of gone (state_of old)

-- a node that was there is one
pub record IsThereIn (d : LiveTree Parts) (n : ℕ) : Type 0 where
  pub below : 1 ≤ n
  pub known : n ≤ length d.nodes.items
  pub there : is_standing d n ≡ true

-- those whose nodes stand
abbrev pub standing_properties : LiveTree Parts → List (NodeProperty Parts) → List (NodeProperty Parts)
standing_properties d xs = filter (λ x. is_standing d x.node) xs

-- ---- the targets of what is left
-- those of a value, none behind the last
abbrev pub part_targets : List Part → List (Option ℕ) → List (Option ℕ)
part_targets [] ts = []
part_targets (x ∷ xs) ts = (if uses x == 1 then slice_index_or ts 0 None ∷ [] else []) ++ part_targets xs (drop (uses x) ts)

-- those of the properties whose nodes pass
abbrev pub left_targets : (ℕ → Bool) → List (NodeProperty Parts) → List (Option ℕ) → List (Option ℕ)
left_targets test [] ts = []
left_targets test (x ∷ xs) ts = (if test x.node then part_targets x.value.now.parts.items ts else []) ++ left_targets test xs (drop (all_uses x.value.now.parts.items) ts)

abbrev pub standing_targets : LiveTree Parts → List (NodeProperty Parts) → List (Option ℕ) → List (Option ℕ)
standing_targets d xs ts = left_targets (is_standing d) xs ts
