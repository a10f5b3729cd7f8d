use Rattle.dt_text.proofs.IncludeLemmas.WordsHere.{nameless_passed}
use Rattle.dt_text.proofs.include.words.incbin_at.Goals as goal

pub returns-in_default : goal.returns-in_default
returns-in_default c = nameless_passed c.args.s.now c.behind.result.now c.behind-in_default.result.now c.requires c.behind.ensures c.in_default.ensures c.behind-in_default.ensures
