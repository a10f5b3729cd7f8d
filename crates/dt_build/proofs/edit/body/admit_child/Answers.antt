use Rattle.std.proofs.Common.{◌==◌, map, length, Err, refl, sym, ap, ◌∙◌, subst, List, arith}
use Rattle.std.proofs.lemmas.Bool.{lt-ltb}
use Rattle.dt_source.specs.TreeMeaning.Statements as meaning
use Rattle.dt_live.specs.declared.live_tree.NodeRow.{NodeRow}
use Rattle.dt_live.specs.Rows.{Kept, child_stamp, node_path, state_of}
use Rattle.dt_live.proofs.Climbs.{not-true}
use Rattle.dt_build.specs.Edit.Admitted.{admitted}
use Rattle.dt_build.proofs.EditLemmas.Admission.{label-taken, child-twice, child-taken, child-deep, child-in, taken-at, shallow}
use Rattle.dt_build.proofs.EditLemmas.Faults.{fault-error, label-says}
use Rattle.dt_build.proofs.EditLemmas.Steps.{not-false}
use Rattle.dt_build.proofs.edit.body.admit_child.Goals as goal

pub returns-in-Err-clause-step : goal.returns-in-Err-clause-step
returns-in-Err-clause-step c x at =
    let old = c.args.live.now in
    let one = c.define_child.new.self in
    let ls = map (λ l. l.now) c.args.labels.now in
    let r = admitted ls c.args.name.now (node_path old c.args.node) x in
    fault-error c.of_label.result.kind _ r c.of_label.ensures.kind
    (label-says c.in-Err.error r (λ same. label-taken x old one one c.args.node c.args.stamp c.args.made.now.count ls c.args.name.now at c.in_ok-child.ensures.state
    (ap (λ q. meaning.give_labels ls q (state_of one)) (sym c.in_ok-child.ensures.made) ∙ c.in-Err.ensures.refused (ap (λ e. Err e) same))))

pub returns-then-not-first-clause-step : goal.returns-then-not-first-clause-step
returns-then-not-first-clause-step c x at =
    let old = c.args.live.now in
    let one = c.define_child.new.self in
    let ls = map (λ l. l.now) c.args.labels.now in
    child-twice x old one c.give_labels.new.self c.args.node c.args.stamp c.args.made.now.count ls c.args.name.now at c.in_ok-child.ensures.state
    (ap (λ q. meaning.give_labels ls q (state_of one)) (sym c.in_ok-child.ensures.made) ∙ c.in_default.ensures.given)
    (not-false (child_stamp old c.args.node c.args.name.now == c.args.stamp) (sym c.in_ok-child.ensures.first ∙ c.if-not-first.true))

pub returns-then-is_taken-clause-step : goal.returns-then-is_taken-clause-step
returns-then-is_taken-clause-step c x at =
    let old = c.args.live.now in
    let one = c.define_child.new.self in
    let ls = map (λ l. l.now) c.args.labels.now in
    let made = c.args.made.now.count in
    child-taken x old one c.give_labels.new.self c.args.node c.args.stamp made ls c.args.name.now at c.in_ok-child.ensures.state
    (ap (λ q. meaning.give_labels ls q (state_of one)) (sym c.in_ok-child.ensures.made) ∙ c.in_default.ensures.given)
    (not-true (child_stamp old c.args.node c.args.name.now == c.args.stamp) (sym c.in_ok-child.ensures.first ∙ c.if-not-first.false))
    (taken-at old c.requires.place.sound c.args.node made c.args.name.now ∙ sym c.is_taken.ensures ∙ c.if-is_taken.true)

pub returns-then-depth-ge-MAX_DEPTH-clause-step : goal.returns-then-depth-ge-MAX_DEPTH-clause-step
returns-then-depth-ge-MAX_DEPTH-clause-step c x at =
    let old = c.args.live.now in
    let one = c.define_child.new.self in
    let ls = map (λ l. l.now) c.args.labels.now in
    let made = c.args.made.now.count in
    child-deep x old one c.give_labels.new.self c.args.node c.args.stamp made ls c.args.name.now at c.in_ok-child.ensures.state
    (ap (λ q. meaning.give_labels ls q (state_of one)) (sym c.in_ok-child.ensures.made) ∙ c.in_default.ensures.given)
    (not-true (child_stamp old c.args.node c.args.name.now == c.args.stamp) (sym c.in_ok-child.ensures.first ∙ c.if-not-first.false))
    (taken-at old c.requires.place.sound c.args.node made c.args.name.now ∙ sym c.is_taken.ensures ∙ c.if-is_taken.false)
    (lt-ltb 63 (length (node_path old c.args.node)) (omega (arith, c.requires.place.depth, c.if-depth-ge-MAX_DEPTH.true)))

pub returns-clause-kept : goal.returns-clause-kept
returns-clause-kept c p =
    subst (λ (rows : List NodeRow). Kept p c.args.live.now.nodes.items rows) (sym c.in_default.ensures.kept) (c.in_ok-child.ensures.kept p)

pub returns-clause-step : goal.returns-clause-step
returns-clause-step c x at =
    let old = c.args.live.now in
    let one = c.define_child.new.self in
    let ls = map (λ l. l.now) c.args.labels.now in
    let made = c.args.made.now.count in
    child-in x old one c.give_labels.new.self c.args.node c.args.stamp made ls c.args.name.now at c.in_ok-child.ensures.state
    (ap (λ q. meaning.give_labels ls q (state_of one)) (sym c.in_ok-child.ensures.made) ∙ c.in_default.ensures.given)
    (not-true (child_stamp old c.args.node c.args.name.now == c.args.stamp) (sym c.in_ok-child.ensures.first ∙ c.if-not-first.false))
    (taken-at old c.requires.place.sound c.args.node made c.args.name.now ∙ sym c.is_taken.ensures ∙ c.if-is_taken.false)
    (shallow (length (node_path old c.args.node)) _ refl (omega (arith, c.requires.place.depth, c.if-depth-ge-MAX_DEPTH.false)))

pub returns-clause-shallow : goal.returns-clause-shallow
returns-clause-shallow c = omega (arith, c.if-depth-ge-MAX_DEPTH.false)
