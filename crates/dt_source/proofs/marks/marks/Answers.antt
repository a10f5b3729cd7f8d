use Rattle.std.proofs.Common.{sym, ◌∙◌}
use Rattle.dt_source.proofs.MarkLoops.{marks_more, marks_found, marks_all}
use Rattle.dt_source.proofs.marks.marks.Goals as goal

pub returns-then-not-is_mark-clause-gives : goal.returns-then-not-is_mark-clause-gives
returns-then-not-is_mark-clause-gives c =
    let e = marks_found c.loop-i.i c.args.ts.now _ c.loop-i-test.true (sym c.is_mark.ensures ∙ c.if-not-is_mark.true) c.loop-i.invariant in
    rw (c.split_at.ensures.front, c.split_at.ensures.back) e

pub loop-i-preserved : goal.loop-i-preserved
loop-i-preserved c = marks_more c.loop-i.i c.args.ts.now _ c.loop-i-test.true (sym c.is_mark.ensures ∙ c.if-not-is_mark.false) c.loop-i.invariant

pub returns-clause-gives : goal.returns-clause-gives
returns-clause-gives c =
    let e = marks_all c.loop-i.i c.args.ts.now c.loop-i-test.false c.loop-i.auto.i-end c.loop-i.invariant in
    rw (c.split_at-2.ensures.front, c.split_at-2.ensures.back) e
