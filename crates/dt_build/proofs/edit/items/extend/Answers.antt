use Rattle.std.proofs.Common.{◌≡◌, false, List, Some, Result, Ok, Err, sym, ap, ◌∙◌, subst}
use Rattle.dt_source.specs.Tree.{target_view, labels_view, views}
use Rattle.dt_source.specs.TreeMeaning.Edits.{State, counted}
use Rattle.dt_source.specs.TreeMeaning.Statements as meaning
use Rattle.dt_source.specs.TreeMeaning.Statements.{Fault, after_body, after_item, begun, found}
use Rattle.dt_source.specs.TreeMeaning.Syntax.{Extends, Piece}
use Rattle.dt_live.specs.Rows.{node_path, path_of, state_of}
use Rattle.dt_build.specs.Edit.EditFault.{Gives}
use Rattle.dt_build.specs.Edit.FaultPlaces.{extension_place, place_in}
use Rattle.dt_build.specs.Edit.Said.{tree_of}
use Rattle.dt_build.proofs.EditLemmas.FaultPlaces.{extension-inside, extension-labelled, extension-unknown, placed-exit, placed-same}
use Rattle.dt_build.proofs.EditLemmas.Faults.{fault-error, fault-same, label-says}
use Rattle.dt_build.proofs.EditLemmas.ItemSteps.{extended, extend-labelled, found-counted, labels-given, labels-refused}
use Rattle.dt_build.proofs.edit.items.extend.Goals as goal

pub returns-in-Err-clause-item : goal.returns-in-Err-clause-item
returns-in-Err-clause-item c =
    let old = c.args.live.now in
    let made = c.args.made.now.count in
    let t = target_view c.args.target.now in
    let ls = labels_view c.args.labels.now in
    let body = views c.args.body.now in
    let p = node_path old c.in_ok-node.node in
    let r = after_item false (Extends ls t body) (counted made (tree_of old)) in
    fault-error c.of_label.result.kind _ r c.of_label.ensures.kind
    (label-says c.in-Err.error r (λ same. extend-labelled made old t ls body p c.in_ok-node.ensures.node
    (ap (λ xs. meaning.give_labels xs p (state_of old)) (sym c.as_slice.ensures) ∙ c.in-Err.ensures.refused (ap (λ e. Err e) same))))

pub returns-clause-item : goal.returns-clause-item
returns-clause-item c =
    let old = c.args.live.now in
    let made = c.args.made.now.count in
    let mid = c.give_labels.new.self in
    let t = target_view c.args.target.now in
    let ls = labels_view c.args.labels.now in
    let body = views c.args.body.now in
    let node = c.in_ok-node.node in
    let p = node_path old node in
    let given : meaning.give_labels ls p (state_of old) ≡ Ok (state_of mid) = ap (λ xs. meaning.give_labels xs p (state_of old)) (sym c.as_slice.ensures) ∙ c.in_default.ensures.given in
    let same = extended made old t ls body p mid c.in_ok-node.ensures.node given ∙ ap (λ rows. after_body body (path_of rows node) (begun (counted made (tree_of mid)))) (sym c.in_default.ensures.kept) in
    subst (λ (r : Result (State (List Piece)) Fault). Gives r (λ _. counted made (tree_of c.edit_body.new.live)) c.edit_body.result) (sym {A = Result (State (List Piece)) Fault} same) c.edit_body.ensures.body

-- ---- where it is refused
pub returns-in_err-node-clause-at : goal.returns-in_err-node-clause-at
returns-in_err-node-clause-at c =
    let target = c.args.target.now in
    let made = c.args.made.now.count in
    let s = tree_of c.args.live.now in
    let k = c.in_err-node.field-0.0.kind in
    placed-exit (extension_place c.args.labels.now target c.args.body.now (counted made s)) c.from_residual.result c.in_err-node.field-0.0 c.from_residual.ensures.1
    (λ some. ap Some c.in_err-node.ensures.at
    ∙ sym (extension-unknown c.args.labels.now target c.args.body.now (counted made s) k some
    (fault-same k (found (target_view target) s) (found (target_view target) (counted made s)) (found-counted made (target_view target) s) c.in_err-node.ensures.node)))

pub returns-in-Err-clause-at : goal.returns-in-Err-clause-at
returns-in-Err-clause-at c some =
    let old = c.args.live.now in
    let made = c.args.made.now.count in
    let target = c.args.target.now in
    let t = target_view target in
    let ls = labels_view c.args.labels.now in
    let s = counted made (tree_of old) in
    let p = node_path old c.in_ok-node.node in
    let k = c.of_label.result.kind in
    let fault = fault-error k _ (meaning.give_labels ls p s) c.of_label.ensures.kind
    (label-says c.in-Err.error (meaning.give_labels ls p s) (λ same. labels-refused made old ls p
    (ap (λ xs. meaning.give_labels xs p (state_of old)) (sym c.as_slice.ensures) ∙ c.in-Err.ensures.refused (ap (λ e. Err e) same)))) in
    ap Some (c.of_label.ensures.place ∙ c.at.ensures)
    ∙ sym (extension-labelled c.args.labels.now target c.args.body.now s p (found-counted made t (tree_of old) ∙ c.in_ok-node.ensures.node) k some fault)

pub returns-clause-at : goal.returns-clause-at
returns-clause-at c =
    let old = c.args.live.now in
    let made = c.args.made.now.count in
    let mid = c.give_labels.new.self in
    let target = c.args.target.now in
    let t = target_view target in
    let ls = labels_view c.args.labels.now in
    let body = c.args.body.now in
    let node = c.in_ok-node.node in
    let p = node_path old node in
    let s = counted made (tree_of old) in
    let u = counted made (tree_of mid) in
    let given = labels-given made old ls p mid (ap (λ xs. meaning.give_labels xs p (state_of old)) (sym c.as_slice.ensures) ∙ c.in_default.ensures.given) in
    let same : extension_place c.args.labels.now target body s ≡ place_in body (node_path mid node) u =
    extension-inside c.args.labels.now target body s p (found-counted made t (tree_of old) ∙ c.in_ok-node.ensures.node) u given
    ∙ ap (λ rows. place_in body (path_of rows node) u) (sym c.in_default.ensures.kept) in
    placed-same (place_in body (node_path mid node) u) (extension_place c.args.labels.now target body s) c.edit_body.result (sym same) c.edit_body.ensures.at
