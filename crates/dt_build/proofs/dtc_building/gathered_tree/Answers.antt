use Rattle.std.proofs.Common.{ℕ, List, None, Err, Ok, Some, ap, ◌∙◌, subst}
use Rattle.std.proofs.lemmas.Result.{err_from_is_err_and}
use Rattle.dt_source.specs.Meaning.{meaning_of}
use Rattle.dt_live.specs.declared.preorder.properties.NodeProperty.{NodeProperty}
use Rattle.dt_build.specs.Edit.Said.{Parts}
use Rattle.dt_build.specs.declared.draft.Draft.{Draft}
use Rattle.dt_build.specs.Places.{AreOfRows, first_root, kept_properties}
use Rattle.dt_build.specs.Private.Fitting.{MakesTree}
use Rattle.dt_build.proofs.DtcSteps.{made-builds, made-free, made-ready, of-draft}
use Rattle.dt_build.proofs.dtc_building.gathered_tree.Goals as goal

pub dtc_draft_of-requires-clause-sound : goal.dtc_draft_of-requires-clause-sound
dtc_draft_of-requires-clause-sound c = c.requires.is.sound

pub dtc_draft_of-requires-clause-owners : goal.dtc_draft_of-requires-clause-owners
dtc_draft_of-requires-clause-owners c = c.requires.is.owners

pub dtc_draft_of-requires-clause-new : goal.dtc_draft_of-requires-clause-new
dtc_draft_of-requires-clause-new c = c.requires.is.new_known

pub draft_tree-requires-clause-ready : goal.draft_tree-requires-clause-ready
draft_tree-requires-clause-ready c =
    let r = c.requires in
    made-ready c.args.symbols (meaning_of c.args.source.now) r.tree r.edited (of-draft r c.in_ok-draft.ensures) r.boots c.in_ok-draft.draft c.in_ok-draft.ensures.draft

pub draft_tree-requires-clause-free : goal.draft_tree-requires-clause-free
draft_tree-requires-clause-free c =
    let r = c.requires in
    made-free c.args.symbols (meaning_of c.args.source.now) r.tree r.edited (of-draft r c.in_ok-draft.ensures) r.boots c.in_ok-draft.draft c.in_ok-draft.ensures.draft

pub places_of-requires : goal.places_of-requires
places_of-requires c =
    let r = c.requires in
    made-ready c.args.symbols (meaning_of c.args.source.now) r.tree r.edited (of-draft r c.in_ok-draft.ensures) r.boots c.in_ok-draft.draft c.in_ok-draft.ensures.draft

pub returns-in_err-places-in-Ok-Some-clause-tree : goal.returns-in_err-places-in-Ok-Some-clause-tree
returns-in_err-places-in-Ok-Some-clause-tree c =
    let p = err_from_is_err_and c.from_residual-in_err-places-in-Ok-Some.result c.from_residual-in_err-places-in-Ok-Some.ensures.1 in
    rw (p.1, p.2) tt

pub returns-in-Ok-Some-clause-tree : goal.returns-in-Ok-Some-clause-tree
returns-in-Ok-Some-clause-tree c =
    let r = c.requires in
    made-builds c.args.symbols (meaning_of c.args.source.now) r.tree r.edited (of-draft r c.in_ok-draft.ensures) r.boots c.in_ok-draft.draft c.in_ok-draft.ensures.draft
    c.args.limit (Ok (Some c.in-Ok-Some.tree))
    (subst (MakesTree c.args.symbols (meaning_of c.args.source.now) c.in_ok-draft.draft c.args.limit) (c.in-Ok-Some.is ∙ ap Ok c.in-Ok-Some.field-0-is) c.draft_tree.ensures)

pub returns-in-Ok-None-clause-tree : goal.returns-in-Ok-None-clause-tree
returns-in-Ok-None-clause-tree c =
    let r = c.requires in
    made-builds c.args.symbols (meaning_of c.args.source.now) r.tree r.edited (of-draft r c.in_ok-draft.ensures) r.boots c.in_ok-draft.draft c.in_ok-draft.ensures.draft
    c.args.limit (Ok None)
    (subst (MakesTree c.args.symbols (meaning_of c.args.source.now) c.in_ok-draft.draft c.args.limit) (c.in-Ok-None.is ∙ ap Ok c.in-Ok-None.field-0-is) c.draft_tree.ensures)

pub returns-clause-tree : goal.returns-clause-tree
returns-clause-tree c =
    let r = c.requires in
    made-builds c.args.symbols (meaning_of c.args.source.now) r.tree r.edited (of-draft r c.in_ok-draft.ensures) r.boots c.in_ok-draft.draft c.in_ok-draft.ensures.draft
    c.args.limit (Err c.in-Err.error)
    (subst (MakesTree c.args.symbols (meaning_of c.args.source.now) c.in_ok-draft.draft c.args.limit) c.in-Err.is c.draft_tree.ensures)

pub returns-in-Ok-Some-clause-places : goal.returns-in-Ok-Some-clause-places
returns-in-Ok-Some-clause-places c =
    let r = c.requires in
    let d = c.in_ok-draft.ensures in
    let x = c.args.gathered in
    let s = c.in_ok-places-in-Ok-Some.places in
    let root = c.first_root.ensures ∙ ap first_root c.as_slice.ensures.value in
    let rows = subst (λ (y : Draft). AreOfRows y.live.nodes.items y.in_preorder.nodes.items y.in_preorder.properties.items c.first_root.result s) d.draft c.in_ok-places-in-Ok-Some.ensures.rows in
    record {
      tree = r.tree;
      edited = r.edited;
      meant = r.meant;
      all = r.all;
      left = x;
      is = r.is;
      places = subst (λ (at : ℕ). AreOfRows x.live.nodes.items x.in_preorder.nodes.items (kept_properties x.live x.in_preorder.properties.items) at s) root
          (subst (λ (xs : List (NodeProperty Parts)). AreOfRows x.live.nodes.items x.in_preorder.nodes.items xs c.first_root.result s) d.are_kept rows);
    }
