use Rattle.std.proofs.Common.{◌≡◌, drop}
use Rattle.dt_format.specs.Bytes.{starts_behind}
use Rattle.dt_format.proofs.tokens.bytes.starts_behind.Given as goal

abbrev pub invariant-loop-c : goal.invariant-loop-c
invariant-loop-c l = starts_behind l.is_start (drop l.c-index l.s) ≡ starts_behind l.fn.starts l.s
