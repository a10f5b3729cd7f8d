use Rattle.std.proofs.Common.{◌≡◌, ◌∙◌, List, map, refl, sym, ap, ap₂, subst}
use Rattle.dt_source.specs.declared.tree.Item.{Item}
use Rattle.dt_source.specs.declared.tree.Source.{Source}
use Rattle.dt_source.specs.Meaning.{meaning_of}
use Rattle.dt_source.specs.Tree.{item_view}
use Rattle.dt_source.specs.TreeMeaning.Edits.{empty}
use Rattle.dt_source.specs.TreeMeaning.Resolved.{resolved, resolved_state}
use Rattle.dt_source.specs.TreeMeaning.Statements.{after_items, edited}
use Rattle.dt_live.specs.declared.live_tree.LiveTree.{LiveTree}
use Rattle.dt_live.specs.Rows.{state_of}
use Rattle.dt_build.specs.Edit.Fragments.{AreFragments}
use Rattle.dt_build.specs.Edit.Said.{Parts, read, tree_of}
use Rattle.dt_build.proofs.EditLemmas.Faults as edit
use Rattle.dt_build.specs.declared.resolve.error.BuildErrorKind.{BuildErrorKind}
use Rattle.dt_build.specs.Resolve.BuildFault.{IsFault}
use Rattle.dt_build.specs.Edit.FaultPlaces.{edit_place}
use Rattle.dt_build.proofs.ResolveLemmas.BuildPlaces.{behind-edits, edit-told, edits-begin}
use Rattle.dt_build.proofs.ResolveLemmas.Faults.{edit-fault}
use Rattle.dt_build.proofs.resolve.prepared.fill.Goals as goal

pub edit_items-requires-clause-unmade : goal.edit_items-requires-clause-unmade
edit_items-requires-clause-unmade c = ap (λ s. s.fragments) c.requires.empty

pub edit_items-requires-clause-fragments : goal.edit_items-requires-clause-fragments
edit_items-requires-clause-fragments c = subst (λ (xs : List Item). AreFragments (map item_view xs) c.args.fragments.now) (sym c.as_slice.ensures.value) c.requires.fragments

edits : (source : Source) (items : List Item) (d : LiveTree Parts) → items ≡ source.items.items → state_of d ≡ empty
    → edited (meaning_of source) ≡ after_items source.plugin (map item_view items) (tree_of d)
edits source items d is none = ap₂ (after_items source.plugin) (ap (map item_view) (sym is)) (ap read (sym none))

pub returns-in-Ok-clause-all : goal.returns-in-Ok-clause-all
returns-in-Ok-clause-all c =
    let source = c.args.source.now in
    c.order_and_resolution.ensures (meaning_of source) c.in-Ok.ensures.items.0
    (edits source c.as_slice.result.now c.args.live.now c.as_slice.ensures.value c.requires.empty ∙ c.in-Ok.ensures.items.1) refl

pub returns-in-Err-clause-all : goal.returns-in-Err-clause-all
returns-in-Err-clause-all c =
    let source = c.args.source.now in
    let m = meaning_of source in
    let e = c.in-Err.error.kind in
    let fault = edit.fault-same e _ (edited m) (edits source c.as_slice.result.now c.args.live.now c.as_slice.ensures.value c.requires.empty) c.in-Err.ensures.items in
    subst (λ (b : BuildErrorKind). IsFault b (resolved c.args.symbols m)) (sym c.from.ensures.0)
    (edit-fault e (resolved c.args.symbols m) (edit.fault-then e (edited m) (resolved_state c.args.symbols m.plugin) fault))

-- ---- where the edits are refused
pub returns-in-Ok-clause-at : goal.returns-in-Ok-clause-at
returns-in-Ok-clause-at c =
    let source = c.args.source.now in
    behind-edits source c.order_and_resolution.result _
    (edits source c.as_slice.result.now c.args.live.now c.as_slice.ensures.value c.requires.empty ∙ c.in-Ok.ensures.items.1)

pub returns-in-Err-clause-at : goal.returns-in-Err-clause-at
returns-in-Err-clause-at c some f refused =
    let source = c.args.source.now in
    edit-told c.in-Err.error c.from.result (edit_place source) c.from.ensures
    (λ told. c.in-Err.ensures.at told ∙ edits-begin source c.as_slice.result.now c.args.live.now c.as_slice.ensures.value c.requires.empty) some
