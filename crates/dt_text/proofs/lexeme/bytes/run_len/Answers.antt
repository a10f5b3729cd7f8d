use Rattle.std.proofs.Common.{sym}
use Rattle.dt_text.specs.Lexeme.Bytes.{passes}
use Rattle.dt_text.proofs.LexemeLemmas.Runs.{all_here}
use Rattle.dt_text.proofs.lexeme.bytes.run_len.Goals as goal

pub returns-then-not-passes : goal.returns-then-not-passes
returns-then-not-passes c = all_here (passes c.args.class) c.args.s.now c.loop-i.i c.loop-i-test.true (sym c.if-not-passes.ensures) c.loop-i.invariant
