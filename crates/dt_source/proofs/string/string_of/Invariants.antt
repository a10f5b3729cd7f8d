use Rattle.std.proofs.Common.{◌+◌}
use Rattle.dt_source.proofs.Chars.{Said}
use Rattle.dt_source.proofs.string.string_of.Given as goal

abbrev pub invariant-loop-i : goal.invariant-loop-i
invariant-loop-i l = Said l.language l.bytes.items l.first l.skip (l.lexeme.start + 1 + l.i) l.i l.inside (l.lexeme.start + 1)
