use Rattle.dt_text.specs.Lexeme.Fronts.{closes}
use Rattle.dt_text.proofs.LexemeLemmas.Runs.{Leads}
use Rattle.dt_text.proofs.lexeme.fronts.quoted_len.Given as goal

abbrev pub invariant-loop-i : goal.invariant-loop-i
invariant-loop-i l = Leads (closes l.quote l.escaped) (closes l.quote l.is_escaped) l.s l.i
