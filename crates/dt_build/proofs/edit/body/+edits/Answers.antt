use Rattle.std.proofs.Common.{rules, ◌≡◌, ◌+◌, ◌<◌, ◌∷◌, ◌==◌, ℕ, false, map, drop, length, Result, Ok, MatchResult, refl, sym, ap, ap₂, ◌∙◌, subst, add-one, arith}
use Rattle.std.proofs.Math.Seq.{drop-cons}
use Rattle.dt_source.specs.TreeMeaning.Edits.{counted}
use Rattle.dt_source.specs.Tree.{view, views}
use Rattle.dt_source.specs.TreeMeaning.Syntax.{Child}
use Rattle.dt_source.specs.TreeMeaning.Statements.{Fault, begun, after_entry, after_body}
use Rattle.dt_live.specs.Rows.{node_path, property_stamp}
use Rattle.dt_live.proofs.Climbs.{not-true}
use Rattle.dt_build.specs.Edit.EditFault.{IsFault}
use Rattle.dt_build.specs.Edit.FaultPlaces.{IsPlaced, Spotted, body_place, entry_place, place_in, spot, spots}
use Rattle.dt_build.specs.Edit.Private.Edited.{child_entry}
use Rattle.dt_build.specs.Edit.Private.Progress.{IsAt}
use Rattle.dt_build.specs.Edit.Said.{tree_of}
use Rattle.dt_build.proofs.EditLemmas.Admission.{child-done, child-edited, own-children, own-properties}
use Rattle.dt_build.proofs.EditLemmas.FaultPlaces.{child-inside, child-refused, place-goes-on, place-stops, placed-exit, placed-same, spot-child, spot-defines}
use Rattle.dt_build.proofs.EditLemmas.Steps.{IsUnderWay, body-begun, body-goes-on, property-set, property-edited, property-removed, child-removed, still-place, At}
use Rattle.dt_build.proofs.EditLemmas.Views.{view-undefines, view-removes, view-defines, view-child}
use Rattle.dt_build.proofs.edit.body.+edits.Goals as goal

pub edit-returns-else-not-branch-clause-edited : goal.edit-returns-else-not-branch-clause-edited
edit-returns-else-not-branch-clause-edited t c =
    let e = c.in_ok-set_property-in-Property.ensures in
    property-edited c.args.live.now c.set_property.new.self c.args.node c.args.stamp c.in-Property.name.now c.requires.place.stamped c.requires.counted e.sound e.kept e.stamps e.others e.count

pub edit-returns-else-not-branch-clause-step : goal.edit-returns-else-not-branch-clause-step
edit-returns-else-not-branch-clause-step t c x at =
    let old = c.args.live.now in
    let p = node_path old c.args.node in
    let e = c.in_ok-set_property-in-Property.ensures in
    let name = c.in-Property.name.now in
    let r = property-set x old c.args.node c.args.stamp c.args.made.now.count at c.set_property.new.self name _
    (not-true (property_stamp old c.args.node name == c.args.stamp) (sym e.first ∙ c.if-not-branch.false)) e.state e.stamps e.others in (
      r.0,
      ap (λ s. after_entry (view s) p x) c.in-Property.is ∙ ap (λ s. after_entry s p x) (view-defines c.in-Property.name c.in-Property.value)
          ∙ r.1,
      r.2,
    )

pub edit-returns-in-DeleteProperty-clause-step : goal.edit-returns-in-DeleteProperty-clause-step
edit-returns-in-DeleteProperty-clause-step t c x at =
    let old = c.args.live.now in
    let e = c.remove_property.ensures in
    let r = property-removed x old c.args.node c.args.stamp c.args.made.now.count at c.remove_property.new.self c.in-DeleteProperty.name.now e.state e.stamps e.others in
    (r.0, ap (λ s. after_entry (view s) (node_path old c.args.node) x) c.in-DeleteProperty.is ∙ ap (λ s. after_entry s (node_path old c.args.node) x) (view-undefines c.in-DeleteProperty.at c.in-DeleteProperty.name) ∙ r.1, r.2)

pub edit-returns-in-DeleteNode-clause-step : goal.edit-returns-in-DeleteNode-clause-step
edit-returns-in-DeleteNode-clause-step t c x at =
    let old = c.args.live.now in
    let e = c.remove_child.ensures in
    let r = child-removed x old c.args.node c.args.stamp c.args.made.now.count at c.remove_child.new.self c.in-DeleteNode.name.now e.state e.stamps e.others in
    (r.0, ap (λ s. after_entry (view s) (node_path old c.args.node) x) c.in-DeleteNode.is ∙ ap (λ s. after_entry s (node_path old c.args.node) x) (view-removes c.in-DeleteNode.at c.in-DeleteNode.name) ∙ r.1, r.2)

pub edit-returns-in-Node-clause-step : goal.edit-returns-in-Node-clause-step
edit-returns-in-Node-clause-step t c x at =
    let p = node_path c.args.live.now c.args.node in
    let name = c.in-Node.name.now in
    let same : after_entry (view c.args.statement.now) p x ≡ after_entry (child_entry c.as_slice.result.now name c.as_slice-in-Node.result.now) p x =
    ap (λ s. after_entry (view s) p x) c.in-Node.is ∙ ap (λ s. after_entry s p x) (view-child c.in-Node.omit_if_no_ref c.in-Node.at c.in-Node.labels c.in-Node.name c.in-Node.body)
    ∙ ap₂ (λ ls ss. after_entry (Child false ls name (views ss)) p x) (sym c.as_slice.ensures) (sym c.as_slice-in-Node.ensures.value) in
    subst (λ (r : Result At Fault). MatchResult c.edit_child.result (λ _. (y : At) × (r ≡ Ok y) × IsAt y c.edit_child.new.live c.args.node c.args.stamp c.args.made.now.count) (λ e. IsFault e.kind r)) (sym {A = Result At Fault} same)
    (c.edit_child.ensures.step x at)

-- ---- where a statement is refused
pub edit-returns-then-not-branch-clause-at : goal.edit-returns-then-not-branch-clause-at
edit-returns-then-not-branch-clause-at t c x at some =
    let p = node_path c.args.live.now c.args.node in
    sym (ap (λ s. entry_place (view s) (spot s) p x) c.in-Property.is
    ∙ ap₂ (λ e i. entry_place e i p x) (view-defines c.in-Property.name c.in-Property.value) (spot-defines c.in-Property.name c.in-Property.value))

pub edit-returns-in-Node-clause-at : goal.edit-returns-in-Node-clause-at
edit-returns-in-Node-clause-at t c x at =
    let p = node_path c.args.live.now c.args.node in
    let name = c.in-Node.name.now in
    let here = c.in-Node.at in
    let ls = c.as_slice.result.now in
    let ss = c.as_slice-in-Node.result.now in
    let same : entry_place (view c.args.statement.now) (spot c.args.statement.now) p x ≡ entry_place (child_entry ls name ss) (Spotted here (spots ss)) p x =
    ap (λ s. entry_place (view s) (spot s) p x) c.in-Node.is
    ∙ ap₂ (λ e i. entry_place e i p x) (view-child c.in-Node.omit_if_no_ref here c.in-Node.labels c.in-Node.name c.in-Node.body)
    (spot-child c.in-Node.omit_if_no_ref here c.in-Node.labels c.in-Node.name c.in-Node.body)
    ∙ ap₂ (λ ls ss. entry_place (Child false ls name (views ss)) (Spotted here (spots ss)) p x) (sym c.as_slice.ensures) (sym c.as_slice-in-Node.ensures.value) in
    placed-same (entry_place (child_entry ls name ss) (Spotted here (spots ss)) p x) (entry_place (view c.args.statement.now) (spot c.args.statement.now) p x) c.edit_child.result (sym same)
    (c.edit_child.ensures.at x at)

pub edit_body-returns-in_err-edit-clause-at : goal.edit_body-returns-in_err-edit-clause-at
edit_body-returns-in_err-edit-clause-at t c =
    let i = c.loop-statement.invariant in
    let u = i.1 in
    let at = c.loop-statement.statement-index in
    let body = c.args.body.now in
    let p = node_path c.args.live.now c.args.node in
    let all = place_in body p (counted c.args.made.now.count (tree_of c.args.live.now)) in
    let within : at < length body = omega arith in
    let next : drop at body ≡ c.statement-item.result ∷ drop (at + 1) body =
    drop-cons body at c.statement-item.result within ∙ ap₂ (λ a n. a ∷ drop n body) (sym c.statement-item.is) (sym (add-one at)) in
    let left = sym (ap (λ ss. body_place (views ss) (spots ss) p i.0) next) ∙ i.2 in
    placed-exit all c.from_residual.result c.in_err-edit.field-0.0 c.from_residual.ensures.1
    (λ some. c.in_err-edit.ensures.at i.0 u.at some
    ∙ place-stops c.statement-item.result (drop (at + 1) body) p (node_path c.loop-statement.live c.args.node) i.0 all (u.done.kept.paths c.args.node c.requires.place.known) left
    c.in_err-edit.field-0.0.kind some (c.in_err-edit.ensures.step i.0 u.at))

pub edit_child-returns-in_err-child-clause-at : goal.edit_child-returns-in_err-child-clause-at
edit_child-returns-in_err-child-clause-at t c x at =
    let p = node_path c.args.live.now c.args.node in
    let ls = map (λ l. l.now) c.args.labels.now in
    let body = c.args.body.now in
    placed-exit (entry_place (child_entry c.args.labels.now c.args.name.now body) (Spotted c.args.at (spots body)) p x) c.from_residual.result c.in_err-child.field-0.0
    c.from_residual.ensures.1
    (λ some. c.in_err-child.ensures.at some
    ∙ sym (child-refused ls c.args.name.now (views body) c.args.at (spots body) p x c.in_err-child.field-0.0.kind some (c.in_err-child.ensures.step x at)))

pub edit_child-returns-in_err-edit_body-clause-at : goal.edit_child-returns-in_err-edit_body-clause-at
edit_child-returns-in_err-edit_body-clause-at t c x at =
    let p = node_path c.args.live.now c.args.node in
    let two = c.admit_child.new.live in
    let e = c.in_ok-child.ensures in
    let ls = map (λ l. l.now) c.args.labels.now in
    let body = c.args.body.now in
    let s = counted c.args.made.now.count (tree_of two) in
    placed-exit (entry_place (child_entry c.args.labels.now c.args.name.now body) (Spotted c.args.at (spots body)) p x) c.from_residual-in_err-edit_body.result c.in_err-edit_body.field-0.0
    c.from_residual-in_err-edit_body.ensures.1
    (λ some. c.in_err-edit_body.ensures.at some ∙ ap (λ q. place_in body q s) e.path
    ∙ sym (child-inside ls c.args.name.now (views body) c.args.at (spots body) p x s (e.step x at)))

-- ---- the statements of a body
pub edit_body-loop-statement-init : goal.edit_body-loop-statement-init
edit_body-loop-statement-init t c =
    let old = c.args.live.now in
    let e = c.in-Some.ensures in
    let made = c.args.made.now.count in
    let whole = views c.args.body.now in (
      begun (counted made (tree_of old)),
      subst (λ (n : ℕ). IsUnderWay (begun (counted made (tree_of old))) old c.new_stamp.new.self c.args.node n made whole whole) (sym e.stamp)
          (body-begun old c.new_stamp.new.self c.args.node made whole e.rest (e.new refl) c.requires.place.sound c.requires.place.stamped),
      refl,
    )

pub edit_body-loop-statement-preserved : goal.edit_body-loop-statement-preserved
edit_body-loop-statement-preserved t c =
    let i = c.loop-statement.invariant in
    let u = i.1 in
    let r = c.in_ok-edit.ensures.step i.0 u.at in
    let at = c.loop-statement.statement-index in
    let body = c.args.body.now in
    let within : at < length body = omega arith in
    let next : drop at body ≡ c.statement-item.result ∷ drop (at + 1) body =
    drop-cons body at c.statement-item.result within ∙ ap₂ (λ a n. a ∷ drop n body) (sym c.statement-item.is) (sym (add-one at)) in (
      r.0,
      body-goes-on i.0 r.0 c.args.live.now c.loop-statement.live c.edit.new.live c.args.node c.in-Some.stamp c.args.made.now.count (views c.args.body.now)
          (views (drop (c.loop-statement.statement-index + 1) c.args.body.now)) (view c.statement-item.result) c.requires.place.known
          (subst (λ ss. IsUnderWay i.0 c.args.live.now c.loop-statement.live c.args.node c.in-Some.stamp c.args.made.now.count (views body) (views ss)) next u) c.in_ok-edit.ensures.edited r.1 r.2,
      place-goes-on c.statement-item.result (drop (at + 1) body) (node_path c.args.live.now c.args.node) (node_path c.loop-statement.live c.args.node) i.0
          (place_in body (node_path c.args.live.now c.args.node) (counted c.args.made.now.count (tree_of c.args.live.now)))
          (u.done.kept.paths c.args.node c.requires.place.known)
          (sym (ap (λ ss. body_place (views ss) (spots ss) (node_path c.args.live.now c.args.node) i.0) next) ∙ i.2) r.0 r.1,
    )

pub edit_body-edit-requires : goal.edit_body-edit-requires
edit_body-edit-requires t c =
    let u = c.loop-statement.invariant.1 in
    (search rules, (still-place c.args.live.now c.loop-statement.live c.args.node c.args.depth c.requires.place u.done, (u.counted, c.requires.exact)))

-- ---- a child
pub edit_child-returns-clause-edited : goal.edit_child-returns-clause-edited
edit_child-returns-clause-edited t c =
    let e = c.in_ok-child.ensures in
    child-edited c.args.live.now c.admit_child.new.live c.edit_body.new.live c.args.node c.in_ok-child.child c.args.stamp c.args.name.now e.kept e.path e.children e.properties
    c.in_ok-edit_body.ensures.edited e.count

pub edit_child-returns-clause-step : goal.edit_child-returns-clause-step
edit_child-returns-clause-step t c x at =
    let old = c.args.live.now in
    let two = c.admit_child.new.live in
    let three = c.edit_body.new.live in
    let e = c.in_ok-child.ensures in
    let ls = map (λ l. l.now) c.args.labels.now in
    let body = views c.args.body.now in
    let made = c.args.made.now.count in
    child-done x old two c.args.node c.args.stamp made ls c.args.name.now body at (e.step x at) three
    (ap (λ r. after_body body r (begun (counted made (tree_of two)))) (sym e.path) ∙ c.in_ok-edit_body.ensures.body)
    (own-properties old two three c.args.node c.in_ok-child.child c.args.stamp c.args.name.now e.kept e.path e.children e.properties c.in_ok-edit_body.ensures.edited c.requires.place.known)
    (own-children old two three c.args.node c.in_ok-child.child c.args.stamp c.args.name.now e.kept e.path e.children e.properties c.in_ok-edit_body.ensures.edited c.requires.place.known)
