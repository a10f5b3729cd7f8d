use Rattle.std.proofs.Common.{false}
use Rattle.dt_text.specs.Lexeme.Fronts.{closes_character}
use Rattle.dt_text.proofs.LexemeLemmas.Runs.{LeadsOr}
use Rattle.dt_text.proofs.lexeme.fronts.character_len.Given as goal

abbrev pub invariant-loop-i : goal.invariant-loop-i
invariant-loop-i l = LeadsOr (closes_character false) (closes_character l.behind) l.s l.i l.longest
