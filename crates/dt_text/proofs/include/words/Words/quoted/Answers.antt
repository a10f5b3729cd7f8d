use Rattle.std.proofs.Common.{sym}
use Rattle.dt_text.proofs.IncludeLemmas.WordsHere.{no_end, no_quote}
use Rattle.dt_text.proofs.include.words.Words.quoted.Goals as goal

pub returns-then-not-begins : goal.returns-then-not-begins
returns-then-not-begins c = no_quote c.args.self.now.left.now c.skip_gap.new.self.left.now c.if-not-skip_gap.ensures (sym c.if-not-begins.ensures.value)

pub returns-in-None : goal.returns-in-None
returns-in-None c = no_end c.args.self.now.left.now c.skip_gap.new.self.left.now c.if-not-skip_gap.ensures c.in-None.ensures
