use Rattle.std.proofs.Common.{inr, Option, subst}
use Rattle.std.proofs.lemmas.Result.{MatchResult-weaker}
use Rattle.dt_tree.specs.TreeData.{TreeData}
use Rattle.dt_overlay.specs.Applied.{IsAppliedOrLonger}
use Rattle.dtman_engine.specs.Fault.{fault_value}
use Rattle.dtman_engine.specs.Limits.{blob_limit}
use Rattle.dtman_engine.proofs.OverlayLemmas.{long-result, unwritten}
use Rattle.dtman_engine.proofs.overlaying.applied_blob.Goals as goal

pub returns-in-Ok-None-clause-applied : goal.returns-in-Ok-None-clause-applied
returns-in-Ok-None-clause-applied c =
    let base = c.args.base.now in
    let over = c.args.overlay.now in
    inr (inr (c.from-in-Ok-None.ensures.0, long-result base over (subst (λ (tree : Option TreeData). IsAppliedOrLonger base over blob_limit tree) c.in-Ok-None.field-0-is c.in-Ok-None.ensures)))

pub returns-in-Ok-Some-clause-applied : goal.returns-in-Ok-Some-clause-applied
returns-in-Ok-Some-clause-applied c =
    let base = c.args.base.now in
    let over = c.args.overlay.now in
    let t = c.in-Ok-Some.tree in
    let within = subst (λ (tree : Option TreeData). IsAppliedOrLonger base over blob_limit tree) c.in-Ok-Some.field-0-is c.in-Ok-Some.ensures in
    MatchResult-weaker c.tree_blob.result c.tree_blob.ensures.made
    (λ blob h. record { tree = t; is = c.check.ensures; tree_is = within.applied; blob_is = h.0; fits = h.1 })
    (λ fault h. unwritten base over t (fault_value fault) c.check.ensures within.applied h)
