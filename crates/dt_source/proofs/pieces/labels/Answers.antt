use Rattle.std.proofs.Common.{sym, ◌∙◌}
use Rattle.dt_source.proofs.PieceLoops.{labels_more, labels_found, labels_all}
use Rattle.dt_source.proofs.pieces.labels.Goals as goal

pub returns-then-not-is_label-clause-gives : goal.returns-then-not-is_label-clause-gives
returns-then-not-is_label-clause-gives c =
    let e = labels_found c.loop-i.i c.args.ts.now _ c.loop-i-test.true (sym c.is_label.ensures ∙ c.if-not-is_label.true) c.loop-i.invariant in
    rw (c.split_at.ensures.front, c.split_at.ensures.back) e

pub loop-i-preserved : goal.loop-i-preserved
loop-i-preserved c = labels_more c.loop-i.i c.args.ts.now _ c.loop-i-test.true (sym c.is_label.ensures ∙ c.if-not-is_label.false) c.loop-i.invariant

pub returns-clause-gives : goal.returns-clause-gives
returns-clause-gives c =
    let e = labels_all c.loop-i.i c.args.ts.now c.loop-i-test.false c.loop-i.auto.i-end c.loop-i.invariant in
    rw (c.split_at-2.ensures.front, c.split_at-2.ensures.back) e
