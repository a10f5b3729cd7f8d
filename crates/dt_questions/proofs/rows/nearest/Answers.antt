-- Row by row.
use Rattle.std.proofs.Common.{◌≡◌, ◌∙◌, ap, sym, refl, ◌-◌, length, Some, arith}
use Rattle.std.specs.List.{slice_get}
use Rattle.std.proofs.lemmas.Option.{slice_get_read, get_or_from_slice_get}
use Rattle.dt_questions.proofs.StepLemmas.{nearest-on, nearest-at, nearest-end, nearest-left}
use Rattle.dt_questions.proofs.rows.nearest.Goals.{then-loop-left-test+else-at-gt0, else-loop-left-test}
use Rattle.dt_questions.proofs.rows.nearest.Goals as goal

pub returns-then-shares : goal.returns-then-shares
returns-then-shares c =
    let rows = c.args.rows.now in
    let at = c.loop-left.at in
    let here = c.index-rows-at.result in
    let within = c.loop-left.invariant.within in
    let is : slice_get rows (at - 1) ≡ Some here =
    slice_get_read rows (length rows) (at - 1) here refl (omega (arith, within, c.if-at-gt0.true)) c.index-rows-at.is in
    let again = c.index-rows-at-then-shares.is ∙ get_or_from_slice_get rows (at - 1) here c.index-rows-at-then-shares.result is in
    ap Some again
    ∙ sym (nearest-at c.args.survey.now rows c.args.mention.now here c.loop-left.left at c.loop-left-test.true c.if-at-gt0.true is (sym c.shares.ensures ∙ c.if-shares.true))
    ∙ c.loop-left.invariant.same

pub loop-left-preserved : goal.loop-left-preserved
loop-left-preserved c =
    let rows = c.args.rows.now in
    let at = c.loop-left.at in
    let here = c.index-rows-at.result in
    let within = c.loop-left.invariant.within in
    let is : slice_get rows (at - 1) ≡ Some here =
    slice_get_read rows (length rows) (at - 1) here refl (omega (arith, within, c.if-at-gt0.true)) c.index-rows-at.is in
    record {
      same = nearest-on c.args.survey.now rows c.args.mention.now here c.loop-left.left at c.loop-left-test.true c.if-at-gt0.true is (sym c.shares.ensures ∙ c.if-shares.false)
          ∙ c.loop-left.invariant.same;
      within = omega (arith, within, c.if-at-gt0.true);
    }

pub returns : goal.returns
returns c =
    let nodes = c.args.survey.now in
    let rows = c.args.rows.now in
    let m = c.args.mention.now in
    elim c.loop-left-test.branch [
      | then-loop-left-test+else-at-gt0 w ↦ sym (nearest-end nodes rows m c.loop-left.left c.loop-left.at w.if-at-gt0.false) ∙ c.loop-left.invariant.same
      | else-loop-left-test w ↦ sym (nearest-left nodes rows m c.loop-left.left c.loop-left.at w.loop-left-test.false) ∙ c.loop-left.invariant.same
    ]
