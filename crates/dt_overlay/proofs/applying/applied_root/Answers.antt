use Rattle.dt_live.specs.Flattened.{lists}
use Rattle.dt_overlay.specs.Fixup.PatchedOverlay.{patched_lists}
use Rattle.dt_overlay.proofs.ApplySteps.{match-all, shift-fault}
use Rattle.dt_overlay.proofs.applying.applied_root.Goals as goal

pub returns-in-Err : goal.returns-in-Err
returns-in-Err c =
    shift-fault c.args.base.now.root c.args.overlay.now.root (lists c.in_ok-rows.rows) c.in_ok-rows.ensures.lists
    c.in-Err.error c.in-Err.ensures.patched

pub returns-in-Ok : goal.returns-in-Ok
returns-in-Ok c =
    match-all c.args.base.now.root c.args.overlay.now.root (lists c.in_ok-rows.rows) c.in_ok-rows.ensures.lists
    (patched_lists c.in-Ok.patched) c.in-Ok.ensures.patched c.args.limit c.patched_root-root.result c.patched_root-root.ensures
