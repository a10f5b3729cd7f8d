use Rattle.std.proofs.Common.{◌≡◌, ℕ, List, subst}
use Rattle.std.specs.Prelude.{OnOk}
use Rattle.dt_blob.proofs.Blocks.{next-reservation, last-reservation}
use Rattle.dt_blob.proofs.header.put_reservations.Goals as goal

pub loop-reserve-preserved : goal.loop-reserve-preserved
loop-reserve-preserved c =
    next-reservation c.loop-reserve.out.items c.put_double_word.new.out.items c.put_double_word-in-loop-reserve.new.out.items _ c.args.reserves.now c.loop-reserve.reserve-index (0, 0) c.loop-reserve-test.true
    c.in_ok-put_double_word.ensures c.in_ok-put_double_word-2.ensures c.loop-reserve.invariant

pub returns : goal.returns
returns c =
    let is = last-reservation c.loop-reserve.out.items c.put_double_word-2.new.out.items _ c.args.reserves.now c.loop-reserve.reserve-index c.loop-reserve-test.false c.in_ok-put_double_word-3.ensures c.loop-reserve.invariant in
    subst (λ (ys : List ℕ). OnOk c.put_double_word-3.result (c.put_double_word-3.new.out.items ≡ ys)) is c.put_double_word-3.ensures
