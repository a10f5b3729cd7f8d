use Rattle.dt_text.specs.Lexeme.Fronts.{ends_label}
use Rattle.dt_text.proofs.LexemeLemmas.Runs.{Leads}
use Rattle.dt_text.proofs.lexeme.fronts.label_end.Given as goal

abbrev pub invariant-loop-i : goal.invariant-loop-i
invariant-loop-i l = Leads ends_label ends_label l.s l.i
