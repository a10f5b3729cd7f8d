use Rattle.dt_text.specs.Lexeme.Fronts.{ends_word}
use Rattle.dt_text.proofs.LexemeLemmas.Runs.{Leads}
use Rattle.dt_text.proofs.lexeme.fronts.word_end.Given as goal

abbrev pub invariant-loop-i : goal.invariant-loop-i
invariant-loop-i l = Leads ends_word ends_word l.s l.i
