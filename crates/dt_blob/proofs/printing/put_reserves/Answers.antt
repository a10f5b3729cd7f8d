use Rattle.std.proofs.Common.{◌+◌, ◌++◌, drop, get_or, ap, ◌∙◌}
use Rattle.std.proofs.lemmas.List.{drop_all}
use Rattle.dt_blob.specs.SourceText.{reserve_line, reserve_lines}
use Rattle.dt_blob.proofs.Lines.{part-over, next-reserve_at, ended-lines}
use Rattle.dt_blob.proofs.printing.put_reserves.Goals as goal

pub loop-reserve-preserved : goal.loop-reserve-preserved
loop-reserve-preserved c = record {
  left = ap (λ xs. xs ++ reserve_lines (drop (c.loop-reserve.reserve-index + 1) c.args.reserves.now)) c.in_ok-put_reserve.ensures.0
      ∙ next-reserve_at c.loop-reserve.out.items _ c.args.reserves.now c.loop-reserve.reserve-index (0, 0) c.loop-reserve-test.true c.loop-reserve.invariant.left;
  fits = rw c.in_ok-put_reserve.ensures.0 c.in_ok-put_reserve.ensures.1;
}

pub returns-in_err-put_reserve : goal.returns-in_err-put_reserve
returns-in_err-put_reserve c =
    let rs = c.args.reserves.now in
    let i = c.loop-reserve.reserve-index in
    part-over c.from_residual.result _ _ (c.loop-reserve.out.items ++ reserve_line (get_or rs i (0, 0))) (reserve_lines (drop (i + 1) rs)) (c.args.out.now.items ++ reserve_lines rs)
    c.from_residual.ensures.1 c.in_err-put_reserve.ensures (next-reserve_at c.loop-reserve.out.items _ rs i (0, 0) c.loop-reserve-test.true c.loop-reserve.invariant.left)

pub returns : goal.returns
returns c = ended-lines c.loop-reserve.out.items _ _ (ap reserve_lines (drop_all c.loop-reserve.reserve-index c.args.reserves.now c.loop-reserve-test.false)) c.loop-reserve.invariant.left c.loop-reserve.invariant.fits
