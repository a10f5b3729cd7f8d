use Rattle.std.proofs.Common.{◌≡◌, true, [], ◌∷◌, ◌++◌, Some, sym, ap, ◌∙◌}
use Rattle.dt_source.specs.Tree.{reference_at, target_view}
use Rattle.dt_source.specs.TreeMeaning.Names.{overlay_name}
use Rattle.dt_live.specs.Placed.PlacedTrees.{node_path}
use Rattle.dt_live.specs.Placed.Rows.{path_of}
use Rattle.dt_build.specs.Edit.DtcFaultPlaces.{dtc_fragment_place, dtc_place_in}
use Rattle.dt_build.specs.Edit.Said.{pieces}
use Rattle.dt_build.specs.Edit.Private.DtcEdited.{placed_of}
use Rattle.dt_build.proofs.EditLemmas.DtcFaultPlaces.{fragment-inside, fragment-unaimed, fragment-unbegun, fragment-unlaid}
use Rattle.dt_build.proofs.EditLemmas.FaultPlaces.{placed-exit, placed-same}
use Rattle.dt_build.proofs.edit.dtc_fragment.add_dtc_fragment.Goals as goal

pub returns-in_err-fragment-clause-at : goal.returns-in_err-fragment-clause-at
returns-in_err-fragment-clause-at c =
    let target = c.args.target.now in
    let ss = c.args.body.now in
    let f = c.args.name.now in
    let t = placed_of c.args.placed.now in
    placed-exit (dtc_fragment_place target ss f t) c.from_residual.result c.in_err-fragment.field-0.0 c.from_residual.ensures.1
    (λ some. c.in_err-fragment.ensures.at some ∙ ap Some c.at.ensures ∙ sym (fragment-unbegun target ss f t c.in_err-fragment.field-0.0.kind some c.in_err-fragment.ensures.step))

pub returns-in_err-put_target-clause-at : goal.returns-in_err-put_target-clause-at
returns-in_err-put_target-clause-at c =
    let target = c.args.target.now in
    let ss = c.args.body.now in
    let f = c.args.name.now in
    let t = placed_of c.args.placed.now in
    let one = c.begin_fragment.new.placed in
    let b = c.in_ok-fragment.ensures in
    let k = c.in_err-put_target.field-0.0.kind in
    placed-exit (dtc_fragment_place target ss f t) c.from_residual-in_err-put_target.result c.in_err-put_target.field-0.0 c.from_residual-in_err-put_target.ensures.1
    (λ some. c.in_err-put_target.ensures.at some ∙ ap Some c.at-2.ensures
    ∙ sym (fragment-unaimed target ss f t (placed_of one) b.step (node_path one c.in_ok-fragment.fragment) c.target_name.result.now (pieces c.args.value) b.made.path c.target_name.ensures c.requires.value
    k some c.in_err-put_target.ensures.step))

pub returns-in_err-overlay-clause-at : goal.returns-in_err-overlay-clause-at
returns-in_err-overlay-clause-at c =
    let target = c.args.target.now in
    let ss = c.args.body.now in
    let f = c.args.name.now in
    let t = placed_of c.args.placed.now in
    let one = c.begin_fragment.new.placed in
    let two = c.put_target.new.placed in
    let node = c.in_ok-fragment.fragment in
    let b = c.in_ok-fragment.ensures in
    let n = c.in_ok-put_target.ensures in
    let path : node_path two node ≡ f ∷ [] = ap (λ rs. path_of rs node) n.nodes.0 ∙ b.made.path in
    let k = c.in_err-overlay.field-0.0.kind in
    placed-exit (dtc_fragment_place target ss f t) c.from_residual-in_err-overlay.result c.in_err-overlay.field-0.0 c.from_residual-in_err-overlay.ensures.1
    (λ some. c.in_err-overlay.ensures.at some ∙ ap Some c.at-3.ensures
    ∙ sym (fragment-unlaid target ss f t (placed_of one) b.step (node_path one node) c.target_name.result.now (pieces c.args.value) b.made.path c.target_name.ensures c.requires.value
    (placed_of two) n.step (node_path two node ++ overlay_name ∷ []) (ap (λ p. p ++ overlay_name ∷ []) path) k some c.in_err-overlay.ensures.step))

pub returns-clause-at : goal.returns-clause-at
returns-clause-at c =
    let target = c.args.target.now in
    let ss = c.args.body.now in
    let f = c.args.name.now in
    let t = placed_of c.args.placed.now in
    let one = c.begin_fragment.new.placed in
    let two = c.put_target.new.placed in
    let three = c.begin_overlay.new.placed in
    let node = c.in_ok-fragment.fragment in
    let overlay = c.in_ok-overlay.overlay in
    let b = c.in_ok-fragment.ensures in
    let n = c.in_ok-put_target.ensures in
    let o = c.in_ok-overlay.ensures in
    let path : node_path two node ++ overlay_name ∷ [] ≡ f ∷ overlay_name ∷ [] = ap (λ p. p ++ overlay_name ∷ []) (ap (λ rs. path_of rs node) n.nodes.0 ∙ b.made.path) in
    placed-same (dtc_place_in ss true (node_path three overlay) (placed_of three)) (dtc_fragment_place target ss f t) c.edit_dtc_body.result
    (fragment-inside target ss f t (placed_of one) b.step (node_path one node) c.target_name.result.now (pieces c.args.value) b.made.path c.target_name.ensures c.requires.value
    (placed_of two) n.step (node_path two node ++ overlay_name ∷ []) path (placed_of three) o.step (node_path three overlay) (o.made.path ∙ path))
    c.edit_dtc_body.ensures.at
