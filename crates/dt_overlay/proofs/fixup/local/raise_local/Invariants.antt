use Rattle.std.proofs.Common.{◌≡◌}
use Rattle.dt_live.specs.Flattened.{lists}
use Rattle.dt_overlay.proofs.FixupLemmas.LocalSteps.{IsReached, definitions, local_step}
use Rattle.dt_overlay.proofs.fixup.local.raise_local.Given as goal

abbrev pub invariant-loop-row : goal.invariant-loop-row
invariant-loop-row l = record {
  live : l.patched.live ≡ l.fn.patched.live;
  reached : IsReached (local_step l.shift (lists l.fn.patched.live).properties) (local_step l.shift (definitions l.fn.patched.live l.row)) l.fn.patched l.patched;
}
