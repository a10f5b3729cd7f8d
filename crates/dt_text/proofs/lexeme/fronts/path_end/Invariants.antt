use Rattle.dt_text.specs.Lexeme.Fronts.{closes_path}
use Rattle.dt_text.proofs.LexemeLemmas.Runs.{Leads}
use Rattle.dt_text.proofs.lexeme.fronts.path_end.Given as goal

abbrev pub invariant-loop-i : goal.invariant-loop-i
invariant-loop-i l = Leads (closes_path l.language 0) (closes_path l.language l.name) l.s l.i
