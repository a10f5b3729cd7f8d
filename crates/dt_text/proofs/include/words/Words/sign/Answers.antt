use Rattle.std.proofs.Common.{sym}
use Rattle.dt_text.proofs.IncludeLemmas.WordsHere.{no_sign}
use Rattle.dt_text.proofs.include.words.Words.sign.Goals as goal

pub returns-then-not-begins : goal.returns-then-not-begins
returns-then-not-begins c = no_sign c.args.c c.args.self.now.left.now c.skip_gap.new.self.left.now c.if-not-skip_gap.ensures (sym c.if-not-begins.ensures.value)
