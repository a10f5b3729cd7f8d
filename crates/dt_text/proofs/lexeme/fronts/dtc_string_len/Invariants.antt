use Rattle.std.proofs.Common.{false}
use Rattle.dt_text.specs.Lexeme.Fronts.{closes_string}
use Rattle.dt_text.proofs.LexemeLemmas.Runs.{Leads}
use Rattle.dt_text.proofs.lexeme.fronts.dtc_string_len.Given as goal

abbrev pub invariant-loop-i : goal.invariant-loop-i
invariant-loop-i l = Leads (closes_string false) (closes_string l.is_escaped) l.s l.i
