use Rattle.std.proofs.Common.{◌≡◌, replicate, None}
use Rattle.dt_overlay.proofs.fixup.shifting.open_changes.Given as goal

abbrev pub invariant-loop-row : goal.invariant-loop-row
invariant-loop-row l = record { items : l.changes.items ≡ replicate l._row None }
