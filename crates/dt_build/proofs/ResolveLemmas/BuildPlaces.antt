-- Where a source makes no tree whose edits are refused.
use Rattle.std.proofs.Common.{◌≡◌, ◌≢◌, ℕ, List, map, Option, Some, Result, Ok, Err, IsErrAnd, sym, ap, ap₂, ◌∙◌}
use Rattle.dt_tree.specs.Steps.{then_do}
use Rattle.dt_source.specs.declared.tree.Item.{Item}
use Rattle.dt_source.specs.declared.tree.Source.{Source}
use Rattle.dt_source.specs.Meaning.{meaning_of}
use Rattle.dt_source.specs.Tree.{item_view}
use Rattle.dt_source.specs.TreeMeaning.Syntax.{Piece}
use Rattle.dt_source.specs.TreeMeaning.Edits.{State, empty}
use Rattle.dt_source.specs.TreeMeaning.Statements.{Fault, edited}
use Rattle.dt_source.specs.TreeMeaning.DtcEdits.{DtcTree, nothing}
use Rattle.dt_source.specs.TreeMeaning.DtcStatements.{dtc_edited, dtc_items, with_labels_once}
use Rattle.dt_live.specs.declared.live_tree.LiveTree.{LiveTree}
use Rattle.dt_live.specs.Rows.{state_of}
use Rattle.dt_build.specs.declared.edit.error.EditError.{EditError}
use Rattle.dt_build.specs.declared.edit.error.EditErrorKind.TheVariants as edits
use Rattle.dt_build.specs.declared.resolve.error.BuildError.{BuildError}
use Rattle.dt_build.specs.declared.resolve.error.BuildErrorKind.TheVariants.{NoMemory}
use Rattle.dt_build.specs.Edit.FaultPlaces.{edit_place, items_place}
use Rattle.dt_build.specs.Edit.Said.{Parts, read, tree_of}
use Rattle.dt_build.specs.Resolve.BuildFault.{build_error}
use Rattle.dt_build.specs.Resolve.BuildPlaces.{IsDtcEditPlaced, IsEditPlaced}

different : {A : Type 0} (s : A) (f : Fault) → Ok s ≡ Err f → ⊥
different s f e = absurd (cc)

-- behind the edits nothing is told
pub behind-edits : {A : Type 0} (source : Source) (r : Result A BuildError) (s : State (List Piece)) → edited (meaning_of source) ≡ Ok s → IsEditPlaced source r
behind-edits source (Ok a) s done = tt
behind-edits source (Err e) s done = λ some f refused. absurd (different s f (sym done ∙ refused))

-- want of memory has no place
pub memory-unplaced : {A : Type 0} (source : Source) (r : Result A BuildError) → IsErrAnd r (λ e. e.kind ≡ NoMemory) → IsEditPlaced source r
memory-unplaced source (Ok a) h = absurd h
memory-unplaced source (Err e) h = λ some f refused. absurd (some h)

-- the edits begin in an empty tree
pub edits-begin : (source : Source) (items : List Item) (d : LiveTree Parts) → items ≡ source.items.items → state_of d ≡ empty → items_place source.plugin items (tree_of d) ≡ edit_place source
edits-begin source items d is none = ap₂ (items_place source.plugin) is (ap read none)

-- an error of the edits is one of the build, at its place
pub edit-told : (e : EditError) (b : BuildError) (place : Option ℕ) → (b.kind ≡ build_error e.kind) × (b.at ≡ e.at) → (e.kind ≢ edits.NoMemory → Some e.at ≡ place) → b.kind ≢ NoMemory → Some b.at ≡ place
edit-told e b place from told some = ap Some from.1 ∙ told (λ none. some (from.0 ∙ ap build_error none))

-- ---- in dtc's language
done-before : (r : Result DtcTree Fault) (k : DtcTree → Result DtcTree Fault) (t : DtcTree) (f : Fault) → then_do r k ≡ Ok t → r ≡ Err f → ⊥
done-before (Ok a) k t f done refused = different a f refused
done-before (Err e) k t f done refused = different t e (sym done)

pub behind-dtc-edits : {A : Type 0} (source : Source) (r : Result A BuildError) (t : DtcTree) → dtc_edited (meaning_of source) ≡ Ok t → IsDtcEditPlaced source r
behind-dtc-edits source (Ok a) t done = tt
behind-dtc-edits source (Err e) t done =
    λ some f refused. absurd (done-before (dtc_items source.plugin (map item_view source.items.items) nothing) with_labels_once t f done refused)

pub memory-unplaced-in-dtc : {A : Type 0} (source : Source) (r : Result A BuildError) → IsErrAnd r (λ e. e.kind ≡ NoMemory) → IsDtcEditPlaced source r
memory-unplaced-in-dtc source (Ok a) h = absurd h
memory-unplaced-in-dtc source (Err e) h = λ some f refused. absurd (some h)
