use Rattle.std.proofs.Common.{sym}
use Rattle.dt_text.proofs.LexemeLemmas.Begins.{operated_two}
use Rattle.dt_text.proofs.lexeme.families.operated.Goals as goal

pub returns-in-Some : goal.returns-in-Some
returns-in-Some c = operated_two c.args.kind c.in-Some.two c.args.s.now c.in-len1-up.len_at_least (sym c.in-Some.ensures)
