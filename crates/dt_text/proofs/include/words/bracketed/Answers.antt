use Rattle.dt_text.proofs.IncludeLemmas.WordsHere.{bracketed_at, no_bracket}
use Rattle.dt_text.proofs.include.words.bracketed.Goals as goal

pub returns-in_err-sign : goal.returns-in_err-sign
returns-in_err-sign c = rw c.from_residual.ensures (no_bracket c.args.words.now.left.now c.in_err-sign.ensures)

pub returns : goal.returns
returns c = bracketed_at c.args.words.now.left.now c.sign.new.self.left.now c.quoted.new.self.left.now c.quoted.result c.in_ok-sign.ensures c.quoted.ensures
