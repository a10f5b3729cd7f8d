-- What `overlay_bytes` answers is what is given, or want of memory.
use Rattle.std.proofs.Common.{inl}
use Rattle.dtman_c.specs.Crossing.{OrNoMemory}
use Rattle.dtman_c.specs.Engines.{IsOverlayAnswer}
use Rattle.dtman_c.proofs.EngineLemmas.{overlaid, handed, wanting}
use Rattle.dtman_c.proofs.blobs.dtman_overlay.Goals as goal

pub returns-in-Ok : goal.returns-in-Ok
returns-in-Ok c =
    let r = c.overlay_bytes.result in
    let of = c.overlay_bytes.ensures in
    handed (λ bytes. bytes.items) r (OrNoMemory (IsOverlayAnswer c.args.base.now c.args.overlay.now)) c.args.out.now c.give.new.out c.give.result
    (inl (overlaid (λ bytes. bytes.items) r c.args.base.now c.args.overlay.now of.answer of.held of.refused of.header of.overlay_header))
    c.give.ensures

pub returns-in-Err : goal.returns-in-Err
returns-in-Err c =
    wanting c.in-Err.fault (IsOverlayAnswer c.args.base.now c.args.overlay.now) c.args.out.now c.give-in-Err.new.out c.give-in-Err.result c.in-Err.ensures
    c.give-in-Err.ensures
