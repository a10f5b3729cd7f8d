use Rattle.dt_format.proofs.WhiteEnds.{Word}
use Rattle.dt_format.proofs.tokens.directive.word_of.Given as goal

abbrev pub invariant-loop-i : goal.invariant-loop-i
invariant-loop-i l = Word l.s l.i
