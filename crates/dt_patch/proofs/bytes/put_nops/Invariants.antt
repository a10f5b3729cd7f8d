use Rattle.std.proofs.Common.{◌≡◌}
use Rattle.dt_patch.specs.Nopping.{nops}
use Rattle.dt_patch.specs.Private.Places.{put_at}
use Rattle.dt_patch.proofs.bytes.put_nops.Given as goal

abbrev pub invariant-loop-place : goal.invariant-loop-place
invariant-loop-place l = l.blob ≡ put_at l.fn.blob l.at (nops l.place)
