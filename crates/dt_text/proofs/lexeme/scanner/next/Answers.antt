use Rattle.dt_text.proofs.LexemeLemmas.Begins.{next_found, next_lost, next_empty}
use Rattle.dt_text.proofs.lexeme.scanner.next.Goals as goal

pub returns-in-empty : goal.returns-in-empty
returns-in-empty c = next_empty c.args.context c.args.s.now c.in-empty.len_below

pub returns-in-Some : goal.returns-in-Some
returns-in-Some c = next_found c.args.context c.args.s.now c.from.result.now c.first_at.result c.in-Some.kind c.in-Some.n c.in-len1-up.len_at_least c.first_at.ensures c.from.ensures c.in-Some.ensures

pub returns-in-None : goal.returns-in-None
returns-in-None c = next_lost c.args.context c.args.s.now c.from.result.now c.first_at.result c.in-len1-up.len_at_least c.first_at.ensures c.from.ensures c.in-None.ensures
