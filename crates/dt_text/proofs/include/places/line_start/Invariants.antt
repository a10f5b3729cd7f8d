-- The line begins that has the byte up to which was read.
use Rattle.std.proofs.Common.{◌≡◌}
use Rattle.dt_text.specs.Include.UserLines.{line_begin}
use Rattle.dt_text.proofs.include.places.line_start.Given as goal

abbrev pub invariant-loop-i : goal.invariant-loop-i
invariant-loop-i l = l.start ≡ line_begin l.text l.i
