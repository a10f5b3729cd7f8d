use Rattle.std.proofs.Common.{ℕ, Option, subst}
use Rattle.dt_live.specs.Placed.References.{IsFirstLabelled}
use Rattle.dt_build.specs.Edit.Said.{pieces}
use Rattle.dt_build.specs.Edit.Private.DtcEdited.{placed_of}
use Rattle.dt_build.proofs.EditLemmas.DtcTargets.{label-begun, label-found, label-missing}
use Rattle.dt_build.proofs.edit.dtc_targets.node_of_label.Goals as goal

pub returns-in-Some-clause-node : goal.returns-in-Some-clause-node
returns-in-Some-clause-node c =
    let d = c.args.placed.now in
    let l = c.args.label.now in
    label-found d l c.in-Some.node (subst (λ (o : Option ℕ). IsFirstLabelled l d (placed_of d) o) c.in-Some.is (c.in_ok-found.ensures.node pieces))

pub returns-in-Some-clause-begun : goal.returns-in-Some-clause-begun
returns-in-Some-clause-begun c =
    let d = c.args.placed.now in
    let l = c.args.label.now in
    label-begun d c.requires.ready l c.in-Some.node (subst (λ (o : Option ℕ). IsFirstLabelled l d (placed_of d) o) c.in-Some.is (c.in_ok-found.ensures.node pieces))

pub returns-in-None-clause-node : goal.returns-in-None-clause-node
returns-in-None-clause-node c =
    let d = c.args.placed.now in
    let l = c.args.label.now in
    label-missing d l (subst (λ (o : Option ℕ). IsFirstLabelled l d (placed_of d) o) c.in-None.is (c.in_ok-found.ensures.node pieces))
