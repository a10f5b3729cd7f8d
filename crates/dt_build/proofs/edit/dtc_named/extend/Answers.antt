use Rattle.std.proofs.Common.{◌≡◌, false, Result, sym, ap, ◌∙◌, subst, true≢false}
use Rattle.dt_source.specs.Tree.{labels_view, target_view, views}
use Rattle.dt_tree.specs.Steps.{then_do}
use Rattle.dt_source.specs.TreeMeaning.Statements.{Fault}
use Rattle.dt_source.specs.TreeMeaning.DtcEdits.{DtcTree, with_labels_at}
use Rattle.dt_source.specs.TreeMeaning.DtcStatements.{dtc_body}
use Rattle.dt_live.specs.Placed.PlacedTrees.{node_path}
use Rattle.dt_live.specs.Placed.Rows.{path_of}
use Rattle.dt_build.specs.Edit.DtcFaultPlaces.{dtc_extension_place, dtc_place_in}
use Rattle.dt_build.specs.Edit.EditFault.{Gives}
use Rattle.dt_build.specs.Edit.Private.DtcEdited.{dtc_extended, placed_of}
use Rattle.dt_build.proofs.EditLemmas.DtcFaultPlaces.{extension-inside, extension-unknown}
use Rattle.dt_build.proofs.EditLemmas.DtcSteps.{standing-same}
use Rattle.dt_build.proofs.EditLemmas.FaultPlaces.{placed-exit, placed-same}
use Rattle.dt_build.proofs.edit.dtc_named.extend.Goals as goal

pub edit_dtc_body-requires : goal.edit_dtc_body-requires
edit_dtc_body-requires c = record {
  place = record {
    sound = c.in_ok-give_labels.ensures.sound;
    standing = standing-same c.args.placed.now c.give_labels.new.placed c.in_ok-give_labels.ensures.nodes.0 c.in_ok-node.node c.in_ok-node.ensures.stands;
    depth = c.depth-depth.ensures;
    fresh = λ e. absurd (true≢false (sym e));
  };
}

pub returns-clause-item : goal.returns-clause-item
returns-clause-item c =
    let old = c.args.placed.now in
    let mid = c.give_labels.new.placed in
    let node = c.in_ok-node.node in
    let t = placed_of old in
    let p = node_path old node in
    let ls = labels_view c.args.labels.now in
    let body = views c.args.body.now in
    let same : dtc_extended ls (target_view c.args.target.now) body t ≡ dtc_body body false (node_path mid node) (placed_of mid) =
    ap (λ r. then_do r (λ q. dtc_body body false q (with_labels_at ls q t))) c.in_ok-node.ensures.node
    ∙ ap (λ xs. dtc_body body false p (with_labels_at xs p t)) (sym c.as_slice-labels.ensures)
    ∙ ap (dtc_body body false p) (sym c.in_ok-give_labels.ensures.tree)
    ∙ ap (λ rs. dtc_body body false (path_of rs node) (placed_of mid)) (sym c.in_ok-give_labels.ensures.nodes.0) in
    subst (λ (r : Result DtcTree Fault). Gives r (λ _. placed_of c.edit_dtc_body.new.placed) c.edit_dtc_body.result) (sym {A = Result DtcTree Fault} same) c.edit_dtc_body.ensures.body

pub returns-in_err-node-clause-at : goal.returns-in_err-node-clause-at
returns-in_err-node-clause-at c =
    let t = placed_of c.args.placed.now in
    let labels = c.args.labels.now in
    let target = c.args.target.now in
    let body = c.args.body.now in
    placed-exit (dtc_extension_place labels target body t) c.from_residual.result c.in_err-node.field-0.0 c.from_residual.ensures.1
    (λ some. c.in_err-node.ensures.at some ∙ sym (extension-unknown labels target body t c.in_err-node.field-0.0.kind some c.in_err-node.ensures.node))

pub returns-clause-at : goal.returns-clause-at
returns-clause-at c =
    let old = c.args.placed.now in
    let mid = c.give_labels.new.placed in
    let node = c.in_ok-node.node in
    let t = placed_of old in
    let p = node_path old node in
    let labels = c.args.labels.now in
    let target = c.args.target.now in
    let body = c.args.body.now in
    let same : dtc_extension_place labels target body t ≡ dtc_place_in body false (node_path mid node) (placed_of mid) =
    extension-inside labels target body t p c.in_ok-node.ensures.node
    ∙ ap (λ xs. dtc_place_in body false p (with_labels_at xs p t)) (sym c.as_slice-labels.ensures)
    ∙ ap (dtc_place_in body false p) (sym c.in_ok-give_labels.ensures.tree)
    ∙ ap (λ rs. dtc_place_in body false (path_of rs node) (placed_of mid)) (sym c.in_ok-give_labels.ensures.nodes.0) in
    placed-same (dtc_place_in body false (node_path mid node) (placed_of mid)) (dtc_extension_place labels target body t) c.edit_dtc_body.result (sym same) c.edit_dtc_body.ensures.at
