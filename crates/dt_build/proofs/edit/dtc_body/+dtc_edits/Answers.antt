use Rattle.std.proofs.Common.{rules, ◌≡◌, ◌+◌, ◌<◌, ◌≤◌, [], ◌∷◌, ◌++◌, drop, length, map, Some, Result, sym, ap, ap₂, ◌∙◌, subst, add-one, arith}
use Rattle.std.proofs.Math.Seq.{drop-cons}
use Rattle.std.proofs.lemmas.List.{length_push}
use Rattle.dt_source.specs.Tree.{view, views}
use Rattle.dt_source.specs.TreeMeaning.Statements.{Fault}
use Rattle.dt_source.specs.TreeMeaning.Syntax.{Child}
use Rattle.dt_source.specs.TreeMeaning.DtcEdits.{DtcTree}
use Rattle.dt_source.specs.TreeMeaning.DtcStatements.{dtc_body, dtc_entry, is_first}
use Rattle.dt_live.specs.Placed.PlacedTrees.{child_path, node_path}
use Rattle.dt_live.specs.Placed.Rows.{path_of}
use Rattle.dt_build.specs.Edit.DtcFaultPlaces.{dtc_entry_place, dtc_place_in}
use Rattle.dt_build.specs.Edit.EditFault.{Gives}
use Rattle.dt_build.specs.Edit.FaultPlaces.{Spotted, spot, spots}
use Rattle.dt_build.specs.Edit.Private.DtcEdited.{IsDtcEdited, dtc_child, placed_of}
use Rattle.dt_build.proofs.EditLemmas.DtcFaultPlaces.{child_place, place-goes-on, place-inside, place-of-deep, place-of-refused, place-stops}
use Rattle.dt_build.proofs.EditLemmas.DtcSteps.{body-next, child-edited, edited-then, on-ok, same-path, still-there}
use Rattle.dt_build.proofs.EditLemmas.FaultPlaces.{placed-exit, placed-memory, placed-same, spot-child, spot-defines, spot-removes}
use Rattle.dt_build.proofs.EditLemmas.Views.{view-child, view-defines, view-removes}
use Rattle.dt_build.proofs.edit.dtc_body.+dtc_edits.Goals as goal

pub edit_dtc-returns-in-Node-clause-step : goal.edit_dtc-returns-in-Node-clause-step
edit_dtc-returns-in-Node-clause-step t c =
    let first = c.args.first in
    let p = node_path c.args.placed.now c.args.node in
    let s = placed_of c.args.placed.now in
    let omitted = c.in-Node.omit_if_no_ref in
    let name = c.in-Node.name.now in
    let same : dtc_entry (view c.args.statement.now) first p s ≡ dtc_entry (dtc_child omitted c.as_slice.result.now name c.as_slice-in-Node.result.now) first p s =
    ap (λ x. dtc_entry (view x) first p s) c.in-Node.is ∙ ap (λ x. dtc_entry x first p s) (view-child omitted c.in-Node.at c.in-Node.labels c.in-Node.name c.in-Node.body)
    ∙ ap₂ (λ ls ss. dtc_entry (Child omitted ls name (views ss)) first p s) (sym c.as_slice.ensures) (sym c.as_slice-in-Node.ensures.value) in
    subst (λ (r : Result DtcTree Fault). Gives r (λ _. placed_of c.edit_dtc_child.new.placed) c.edit_dtc_child.result) (sym {A = Result DtcTree Fault} same) c.edit_dtc_child.ensures.step

pub edit_dtc_body-edit_dtc-requires : goal.edit_dtc_body-edit_dtc-requires
edit_dtc_body-edit_dtc-requires t c =
    (search rules, still-there c.args.first c.args.node c.args.depth c.args.placed.now c.loop-statement.placed c.requires.place c.loop-statement.invariant.edited)

pub edit_dtc_body-loop-statement-preserved : goal.edit_dtc_body-loop-statement-preserved
edit_dtc_body-loop-statement-preserved t c =
    let i = c.loop-statement.invariant in
    let e = c.in_ok-edit_dtc.ensures in
    let first = c.args.first in
    let old = c.args.placed.now in
    let live = c.loop-statement.placed in
    let new = c.edit_dtc.new.placed in
    let p = node_path old c.args.node in
    let at = c.loop-statement.statement-index in
    let body = c.args.body.now in
    let within : at < length body = omega arith in
    let next : drop at body ≡ c.statement-item.result ∷ drop (at + 1) body =
    drop-cons body at c.statement-item.result within ∙ ap₂ (λ a n. a ∷ drop n body) (sym c.statement-item.is) (sym (add-one at)) in
    record {
      edited = edited-then first c.args.node old live new i.edited e.edited;
      rest = body-next (view c.statement-item.result) (views (drop (at + 1) body)) first p (node_path live c.args.node) (placed_of live) (placed_of new) (dtc_body (views body) first p (placed_of old))
          (same-path first c.args.node old live c.requires.place.standing i.edited)
          (sym (ap (λ xs. dtc_body (views xs) first p (placed_of live)) next) ∙ i.rest)
          e.step;
      place = place-goes-on c.statement-item.result (drop (at + 1) body) first p (node_path live c.args.node) (placed_of live) (dtc_place_in body first p (placed_of old))
          (same-path first c.args.node old live c.requires.place.standing i.edited)
          (sym (ap (λ xs. dtc_place_in xs first p (placed_of live)) next) ∙ i.place) (placed_of new) e.step;
    }

pub edit_dtc_child-returns-clause-edited : goal.edit_dtc_child-returns-clause-edited
edit_dtc_child-returns-clause-edited t c =
    let first = c.args.first in
    let node = c.args.node in
    let a = c.args.placed.now in
    let b = c.make_child.new.placed in
    let d = c.dress_child.new.placed in
    let e = c.edit_dtc_body.new.placed in
    let made = c.in_ok-made.made in
    let m = c.in_ok-made.ensures in
    let r = c.in_ok-dress_child.ensures in
    on-ok c.edit_dtc_body.result (IsDtcEdited made.begins made.node d e) (IsDtcEdited first node a e)
    (λ x. child-edited first made.begins node made.node c.args.depth a b d c.args.name.now c.requires.place m.made m.keeps r.nodes (r.begun ∙ m.begun) e m.grows
    (λ f. m.begins ∙ ap (λ z. is_first z (child_path a node c.args.name.now) (placed_of a)) f) x)
    c.edit_dtc_body.ensures.edited

-- ---- where a statement is refused
pub edit_dtc-returns-in-Property-clause-at : goal.edit_dtc-returns-in-Property-clause-at
edit_dtc-returns-in-Property-clause-at t c =
    let first = c.args.first in
    let p = node_path c.args.placed.now c.args.node in
    let s = placed_of c.args.placed.now in
    let here = Some c.in-Property.value.at in
    let same : dtc_entry_place (view c.args.statement.now) (spot c.args.statement.now) first p s ≡ here =
    ap (λ x. dtc_entry_place (view x) (spot x) first p s) c.in-Property.is
    ∙ ap₂ (λ e i. dtc_entry_place e i first p s) (view-defines c.in-Property.name c.in-Property.value) (spot-defines c.in-Property.name c.in-Property.value) in
    placed-same here (dtc_entry_place (view c.args.statement.now) (spot c.args.statement.now) first p s) c.set_property.result (sym same) c.set_property.ensures.at

pub edit_dtc-returns-in-DeleteNode-clause-at : goal.edit_dtc-returns-in-DeleteNode-clause-at
edit_dtc-returns-in-DeleteNode-clause-at t c =
    let first = c.args.first in
    let p = node_path c.args.placed.now c.args.node in
    let s = placed_of c.args.placed.now in
    let here = Some c.in-DeleteNode.at in
    let same : dtc_entry_place (view c.args.statement.now) (spot c.args.statement.now) first p s ≡ here =
    ap (λ x. dtc_entry_place (view x) (spot x) first p s) c.in-DeleteNode.is
    ∙ ap₂ (λ e i. dtc_entry_place e i first p s) (view-removes c.in-DeleteNode.at c.in-DeleteNode.name) (spot-removes c.in-DeleteNode.at c.in-DeleteNode.name) in
    placed-same here (dtc_entry_place (view c.args.statement.now) (spot c.args.statement.now) first p s) c.remove_child.result (sym same) c.remove_child.ensures.at

pub edit_dtc-returns-in-Node-clause-at : goal.edit_dtc-returns-in-Node-clause-at
edit_dtc-returns-in-Node-clause-at t c =
    let first = c.args.first in
    let p = node_path c.args.placed.now c.args.node in
    let s = placed_of c.args.placed.now in
    let omitted = c.in-Node.omit_if_no_ref in
    let name = c.in-Node.name.now in
    let here = c.in-Node.at in
    let ls = c.as_slice.result.now in
    let ss = c.as_slice-in-Node.result.now in
    let same : dtc_entry_place (view c.args.statement.now) (spot c.args.statement.now) first p s ≡ dtc_entry_place (dtc_child omitted ls name ss) (Spotted here (spots ss)) first p s =
    ap (λ x. dtc_entry_place (view x) (spot x) first p s) c.in-Node.is
    ∙ ap₂ (λ e i. dtc_entry_place e i first p s) (view-child omitted here c.in-Node.labels c.in-Node.name c.in-Node.body) (spot-child omitted here c.in-Node.labels c.in-Node.name c.in-Node.body)
    ∙ ap₂ (λ ls ss. dtc_entry_place (Child omitted ls name (views ss)) (Spotted here (spots ss)) first p s) (sym c.as_slice.ensures) (sym c.as_slice-in-Node.ensures.value) in
    placed-same (dtc_entry_place (dtc_child omitted ls name ss) (Spotted here (spots ss)) first p s) (dtc_entry_place (view c.args.statement.now) (spot c.args.statement.now) first p s) c.edit_dtc_child.result (sym same)
    c.edit_dtc_child.ensures.at

pub edit_dtc_body-returns-in_err-edit_dtc-clause-at : goal.edit_dtc_body-returns-in_err-edit_dtc-clause-at
edit_dtc_body-returns-in_err-edit_dtc-clause-at t c =
    let i = c.loop-statement.invariant in
    let first = c.args.first in
    let old = c.args.placed.now in
    let live = c.loop-statement.placed in
    let p = node_path old c.args.node in
    let at = c.loop-statement.statement-index in
    let body = c.args.body.now in
    let all = dtc_place_in body first p (placed_of old) in
    let within : at < length body = omega arith in
    let next : drop at body ≡ c.statement-item.result ∷ drop (at + 1) body =
    drop-cons body at c.statement-item.result within ∙ ap₂ (λ a n. a ∷ drop n body) (sym c.statement-item.is) (sym (add-one at)) in
    let left = sym (ap (λ xs. dtc_place_in xs first p (placed_of live)) next) ∙ i.place in
    placed-exit all c.from_residual.result c.in_err-edit_dtc.field-0.0 c.from_residual.ensures.1
    (λ some. c.in_err-edit_dtc.ensures.at some
    ∙ place-stops c.statement-item.result (drop (at + 1) body) first p (node_path live c.args.node) (placed_of live) all (same-path first c.args.node old live c.requires.place.standing i.edited) left
    c.in_err-edit_dtc.field-0.0.kind some c.in_err-edit_dtc.ensures.step)

pub edit_dtc_child-returns-then-depth-ge-MAX_DEPTH-clause-at : goal.edit_dtc_child-returns-then-depth-ge-MAX_DEPTH-clause-at
edit_dtc_child-returns-then-depth-ge-MAX_DEPTH-clause-at t c some =
    let a = c.args.placed.now in
    let q = child_path a c.args.node c.args.name.now in
    place-of-deep (is_first c.args.first q (placed_of a)) c.args.omitted (map (λ l. l.now) c.args.labels.now) q (placed_of a) (views c.args.body.now) c.args.at (spots c.args.body.now)
    (omega (arith, length_push (node_path a c.args.node) c.args.name.now, c.requires.place.depth, c.if-depth-ge-MAX_DEPTH.true))

pub edit_dtc_child-returns-in_err-made-clause-at : goal.edit_dtc_child-returns-in_err-made-clause-at
edit_dtc_child-returns-in_err-made-clause-at t c =
    let a = c.args.placed.now in
    let q = child_path a c.args.node c.args.name.now in
    let inner = is_first c.args.first q (placed_of a) in
    let ls = map (λ l. l.now) c.args.labels.now in
    let body = c.args.body.now in
    let le : length q ≤ 64 = omega (arith, length_push (node_path a c.args.node) c.args.name.now, c.requires.place.depth, c.if-depth-ge-MAX_DEPTH.false) in
    placed-exit (child_place inner c.args.omitted ls q (placed_of a) (views body) c.args.at (spots body)) c.from_residual.result c.in_err-made.field-0.0 c.from_residual.ensures.1
    (λ some. c.in_err-made.ensures.at some
    ∙ place-of-refused inner c.args.omitted ls q (placed_of a) (views body) c.args.at (spots body) le c.in_err-made.field-0.0.kind some c.in_err-made.ensures.step)

pub edit_dtc_child-returns-clause-at : goal.edit_dtc_child-returns-clause-at
edit_dtc_child-returns-clause-at t c =
    let a = c.args.placed.now in
    let b = c.make_child.new.placed in
    let d = c.dress_child.new.placed in
    let made = c.in_ok-made.made in
    let m = c.in_ok-made.ensures in
    let r = c.in_ok-dress_child.ensures in
    let q = child_path a c.args.node c.args.name.now in
    let inner = is_first c.args.first q (placed_of a) in
    let ls = map (λ l. l.now) c.args.labels.now in
    let body = c.args.body.now in
    let le : length q ≤ 64 = omega (arith, length_push (node_path a c.args.node) c.args.name.now, c.requires.place.depth, c.if-depth-ge-MAX_DEPTH.false) in
    placed-same (dtc_place_in body made.begins (node_path d made.node) (placed_of d)) (child_place inner c.args.omitted ls q (placed_of a) (views body) c.args.at (spots body)) c.edit_dtc_body.result
    (place-inside inner c.args.omitted ls q (placed_of a) (views body) c.args.at (spots body) le made.begins m.begins (placed_of b) (placed_of d) m.step (node_path b made.node) m.made.path r.tree
    (node_path d made.node) (ap (λ rs. path_of rs made.node) r.nodes.0 ∙ m.made.path))
    c.edit_dtc_body.ensures.at
