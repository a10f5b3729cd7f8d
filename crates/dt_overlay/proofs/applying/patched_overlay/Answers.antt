use Rattle.std.proofs.Common.{◌≡◌, subst}
use Rattle.std.specs.Prelude.{MatchResult, Ok}
use Rattle.dt_source.specs.TreeMeaning.Resolved.{Resolved}
use Rattle.dt_live.specs.Flattened.{lists}
use Rattle.dt_source.specs.OverlayMeaning.Shifted.{shifted_overlay}
use Rattle.dt_overlay.specs.Fixup.OverlayFault.{IsFault}
use Rattle.dt_overlay.specs.Fixup.PatchedOverlay.{patched_lists}
use Rattle.dt_overlay.proofs.applying.patched_overlay.Goals as goal

pub returns : goal.returns
returns c =
    record {
      patched = subst (λ (over : Resolved). MatchResult c.shift.result (λ patched. shifted_overlay (lists c.args.rows.now) over ≡ Ok (patched_lists patched)) (λ e. IsFault e (shifted_overlay (lists c.args.rows.now) over)))
          c.in_ok-over.ensures.lists c.shift.ensures.patched;
    }
