use Rattle.std.proofs.Common.{◌≡◌, drop}
use Rattle.dt_format.specs.Bytes.{behind_white}
use Rattle.dt_format.proofs.tokens.bytes.white_len.Given as goal

abbrev pub invariant-loop-i : goal.invariant-loop-i
invariant-loop-i l = behind_white (drop l.i l.s) ≡ behind_white l.s
