use Rattle.std.proofs.Common.{sym, ◌∙◌}
use Rattle.dt_source.proofs.MarkLoops.{omits_here, omits_on, omits_over}
use Rattle.dt_source.proofs.marks.omits.Goals as goal

pub returns-then-is_omission : goal.returns-then-is_omission
returns-then-is_omission c = omits_here c.args.marks.now c.loop-mark.mark-index _ c.loop-mark-test.true (sym c.is_omission.ensures ∙ c.if-is_omission.true) c.loop-mark.invariant

pub loop-mark-preserved : goal.loop-mark-preserved
loop-mark-preserved c = omits_on c.args.marks.now c.loop-mark.mark-index _ c.loop-mark-test.true (sym c.is_omission.ensures ∙ c.if-is_omission.false) c.loop-mark.invariant

pub returns : goal.returns
returns c = omits_over c.args.marks.now c.loop-mark.mark-index c.loop-mark-test.false c.loop-mark.invariant
