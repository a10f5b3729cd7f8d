-- The number is that of the digits so far.
use Rattle.std.proofs.Common.{◌≡◌, take}
use Rattle.dt_text.specs.Include.UserLines.{line_number}
use Rattle.dt_text.proofs.include.marker.decimal.Given as goal

abbrev pub invariant-loop-c : goal.invariant-loop-c
invariant-loop-c l = l.number ≡ line_number (take l.c-index l.digits)
