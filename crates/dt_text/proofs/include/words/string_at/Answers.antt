use Rattle.dt_text.specs.Include.Words.{open_string}
use Rattle.dt_text.proofs.IncludeLemmas.WordsHere.{string_passed}
use Rattle.dt_text.proofs.include.words.string_at.Goals as goal

pub returns-in-Some : goal.returns-in-Some
returns-in-Some c = string_passed c.args.s.now c.behind.result.now c.in-Some.len c.requires c.in-Some.ensures c.behind.ensures

pub returns-in-None : goal.returns-in-None
returns-in-None c = open_string c.requires c.in-None.ensures
