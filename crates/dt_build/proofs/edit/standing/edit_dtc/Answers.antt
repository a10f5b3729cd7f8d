use Rattle.std.proofs.Common.{List, map, sym, ap, ◌∙◌, subst}
use Rattle.dt_source.specs.declared.tree.Item.{Item}
use Rattle.dt_source.specs.Meaning.{meaning_of}
use Rattle.dt_source.specs.Tree.{item_view}
use Rattle.dt_source.specs.TreeMeaning.DtcEdits.{nothing}
use Rattle.dt_source.specs.TreeMeaning.DtcStatements.{dtc_items}
use Rattle.dt_build.specs.Edit.DtcFaultPlaces.{dtc_items_place}
use Rattle.dt_build.specs.Edit.Fragments.{AreFragments}
use Rattle.dt_build.specs.Edit.Private.DtcEdited.{placed_of}
use Rattle.dt_build.proofs.EditLemmas.AllRead.{edits-refused, edits-then}
use Rattle.dt_build.proofs.EditLemmas.DtcFaultPlaces.{behind-items}
use Rattle.dt_build.proofs.EditLemmas.Faults.{fault-same}
use Rattle.dt_build.proofs.edit.standing.edit_dtc.Goals as goal

pub edit_dtc_items-requires : goal.edit_dtc_items-requires
edit_dtc_items-requires c =
    record { fragments = subst (λ (xs : List Item). AreFragments (map item_view xs) c.args.fragments.now) (sym c.as_slice-items.ensures.value) c.requires }

pub returns-in-Ok-clause-all : goal.returns-in-Ok-clause-all
returns-in-Ok-clause-all c =
    let m = meaning_of c.args.source.now in
    edits-then m (placed_of c.in-Ok.placed) c.standing_of.result
    (ap (λ (xs : List Item). dtc_items m.plugin (map item_view xs) nothing) (sym c.as_slice-items.ensures.value) ∙ c.in-Ok.ensures.items) c.standing_of.ensures

pub returns-in-Err-clause-all : goal.returns-in-Err-clause-all
returns-in-Err-clause-all c =
    let m = meaning_of c.args.source.now in
    edits-refused m c.in-Err.error.kind
    (fault-same c.in-Err.error.kind (dtc_items m.plugin (map item_view c.as_slice-items.result.now) nothing) (dtc_items m.plugin m.items nothing)
    (ap (λ (xs : List Item). dtc_items m.plugin (map item_view xs) nothing) (sym c.as_slice-items.ensures.value)) c.in-Err.ensures.items)

pub returns-in-Ok-clause-at : goal.returns-in-Ok-clause-at
returns-in-Ok-clause-at c =
    let m = meaning_of c.args.source.now in
    behind-items c.args.source.now c.standing_of.result (placed_of c.in-Ok.placed)
    (ap (λ (xs : List Item). dtc_items m.plugin (map item_view xs) nothing) (sym c.as_slice-items.ensures.value) ∙ c.in-Ok.ensures.items)

pub returns-in-Err-clause-at : goal.returns-in-Err-clause-at
returns-in-Err-clause-at c some f refused = c.in-Err.ensures.at some ∙ ap (λ xs. dtc_items_place c.args.source.now.plugin xs nothing) c.as_slice-items.ensures.value
