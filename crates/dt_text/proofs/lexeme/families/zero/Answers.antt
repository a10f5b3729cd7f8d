use Rattle.dt_text.proofs.LexemeLemmas.Begins.{hex_kind}
use Rattle.dt_text.proofs.lexeme.families.zero.Goals as goal

pub returns-in-Some : goal.returns-in-Some
returns-in-Some c = hex_kind c.args.s.now c.in-Some.n c.in-Some.ensures
