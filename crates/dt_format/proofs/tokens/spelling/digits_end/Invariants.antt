use Rattle.std.proofs.Common.{◌≡◌, drop, false}
use Rattle.dt_format.specs.Spelling.{digits_end}
use Rattle.dt_format.proofs.tokens.spelling.digits_end.Given as goal

abbrev pub invariant-loop-c : goal.invariant-loop-c
invariant-loop-c l = digits_end l.behind (drop l.c-index l.s) ≡ digits_end false l.s
