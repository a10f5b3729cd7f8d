use Rattle.std.proofs.Common.{◌≡◌, true, take}
use Rattle.std.specs.List.{list_all}
use Rattle.dt_text.specs.Lexeme.Bytes.{passes}
use Rattle.dt_text.proofs.lexeme.bytes.run_len.Given as goal

abbrev pub invariant-loop-i : goal.invariant-loop-i
invariant-loop-i l = list_all (passes l.class) (take l.i l.s) ≡ true
