-- What edits do to a live tree (Devicetree Specification v0.4, section 6.3).
use Rattle.std.specs.Prelude.{◌≡◌, ◌≤◌, ◌+◌, ℕ, true, false, List, map, length, Option, Result, Ok, MatchResult}
use denote.Ref.{Bor}
use Rattle.dt_source.specs.declared.labels.Labels.{Labels}
use Rattle.dt_source.specs.declared.tree.Reference.{Reference}
use Rattle.dt_source.specs.declared.tree.Statement.{Statement}
use Rattle.dt_source.specs.Tree.{labels_view, target_view, views}
use Rattle.dt_source.specs.TreeMeaning.Paths.{Path}
use Rattle.dt_source.specs.TreeMeaning.Syntax.{Piece, Target, Entry, Child, Extends, Deletes}
use Rattle.dt_source.specs.TreeMeaning.Edits.{State, counted}
use Rattle.dt_source.specs.TreeMeaning.Statements.{Fault, Progress, after_body, after_entry, after_fragment, after_item, begun, with_fragment}
use Rattle.dt_live.specs.declared.live_tree.LiveTree.{LiveTree}
use Rattle.dt_live.specs.Rows.{IsLiveTree, IsKept, IsNode, IsStamped, is_standing, node_path}
use Rattle.dt_build.specs.declared.edit.error.EditError.{EditError}
use Rattle.dt_build.specs.declared.edit.made.Made.{Made}
use Rattle.dt_build.specs.Edit.EditFault.{Gives, IsFault}
use Rattle.dt_build.specs.Edit.FaultPlaces.{IsPlaced, Spot, entry_place}
use Rattle.dt_build.specs.Edit.Admitted.{admitted}
use Rattle.dt_build.specs.Edit.Private.Progress.{HasMarks, IsAt}
use Rattle.dt_build.specs.Edit.Said.{Parts, tree_of}

-- ---- what the text says, read
abbrev pub Step : Type 0
Step = State (List Piece) → Result (State (List Piece)) Fault

abbrev pub body_step : List Statement → Path → Step
body_step ss p s = after_body (views ss) p (begun s)

abbrev pub fragment_step : Reference → List Statement → List ℕ → Step
fragment_step target ss name s = after_fragment (target_view target) (views ss) name s

abbrev pub extend_step : Labels → Reference → List Statement → Step
extend_step labels target ss s = after_item false (Extends (labels_view labels) (target_view target) (views ss)) s

abbrev pub delete_step : Reference → Step
delete_step target s = after_item false (Deletes (target_view target)) s

-- `/omit-if-no-ref/` says nothing in the profile
abbrev pub child_entry : List (Bor (List ℕ)) → List ℕ → List Statement → Entry (List Piece)
child_entry labels name ss = Child false (map (λ l. l.now) labels) name (views ss)

-- ---- what a call does
-- the live tree shows what the step makes of it, with the fragments made so far, or the call has its fault
abbrev pub Does : {A : Type 0} → Step → LiveTree Parts → Made → LiveTree Parts → Made → Result A EditError → Type 0
Does step old before new after result = Gives (step (counted before.count (tree_of old))) (λ _. counted after.count (tree_of new)) result

-- the fragment is there, whatever the number of those before it
abbrev pub HasFragment : List ℕ → Target → LiveTree Parts → LiveTree Parts → Type 0
HasFragment name target old new = (n : ℕ) → with_fragment name target (counted n (tree_of old)) ≡ counted (n + 1) (tree_of new)

-- a child is let in, wherever its parent's body stands, or the call has the fault
abbrev pub Admits : {A : Type 0} → List (Bor (List ℕ)) → List ℕ → LiveTree Parts → LiveTree Parts → ℕ → ℕ → Made → Result A EditError → Type 0
Admits labels name old new node stamp made result = (x : Progress (List Piece)) → IsAt x old node stamp made.count
    → Gives (admitted (map (λ l. l.now) labels) name (node_path old node) x) (λ _. counted made.count (tree_of new)) result

-- the body stands behind a statement of it, or the call has the fault
abbrev pub Passes : {A : Type 0} → Entry (List Piece) → LiveTree Parts → LiveTree Parts → ℕ → ℕ → Made → Result A EditError → Type 0
Passes entry old new node stamp made result = (x : Progress (List Piece)) → IsAt x old node stamp made.count
    → MatchResult result
    (λ _. (y : Progress (List Piece)) × (after_entry entry (node_path old node) x ≡ Ok y) × IsAt y new node stamp made.count)
    (λ e. IsFault e.kind (after_entry entry (node_path old node) x))

-- ---- where a call is refused
-- where the fault of what was done to the live tree is, with the fragments made so far
abbrev pub IsPlacedIn : {A : Type 0} → (State (List Piece) → Option ℕ) → LiveTree Parts → Made → Result A EditError → Type 0
IsPlacedIn place old before result = IsPlaced (place (counted before.count (tree_of old))) result

-- where the fault of a statement is, wherever its body stands
abbrev pub Tells : {A : Type 0} → Entry (List Piece) → Spot → LiveTree Parts → ℕ → ℕ → Made → Result A EditError → Type 0
Tells entry here old node stamp made result =
    (x : Progress (List Piece)) → IsAt x old node stamp made.count → IsPlaced (entry_place entry here (node_path old node) x) result

-- ---- what stays
-- a node that takes a body: it stands in a sound tree, so many levels deep
pub record IsPlace (d : LiveTree Parts) (node levels : ℕ) : Type 0 where
  pub sound : IsLiveTree d
  pub stamped : IsStamped d
  pub known : IsNode d node
  pub stands : is_standing d node ≡ true
  pub depth : levels ≡ length (node_path d node)

-- the tree is sound, and what isn't within the path is as it was
pub record IsEdited (p : Path) (old new : LiveTree Parts) : Type 0 where
  pub sound : IsLiveTree new
  pub stamped : IsStamped new
  pub counted : old.stamps ≤ new.stamps
  pub kept : IsKept p old new
  pub marks : HasMarks p old new
