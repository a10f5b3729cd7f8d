use Rattle.std.proofs.Common.{length, Some, ap, sym, ◌∙◌, arith}
use Rattle.std.proofs.lemmas.Result.{err_from_is_err_and}
use Rattle.dt_patch.proofs.Lists.{an_index, held_removed, listed, no_index, no_order, open_list, pairs_less, size_of, size_small}
use Rattle.dt_patch.proofs.reserving.delete_reservation.Goals as goal

pub returns-in_err-list-clause-fault : goal.returns-in_err-list-clause-fault
returns-in_err-list-clause-fault c =
    let p = err_from_is_err_and c.from_residual.result c.from_residual.ensures.1 in
    λ tree h.
    let f = c.in_err-list.ensures.fault tree h in
    rw (p.1, p.2) (no_order c.args.blob.now tree c.args.index f.1 ∙ ap Some (sym f.0))

pub returns-then-index-count-clause-fault : goal.returns-then-index-count-clause-fault
returns-then-index-count-clause-fault c = λ tree h.
    let size = size_of c.args.blob.now c.in_ok-list.list c.in_ok-list.ensures.list tree h in
    let e = c.saturating_sub-count.ensures in
    let t = c.if-index-count.true in
    no_index c.args.blob.now tree c.args.index (c.in_ok-list.ensures.fault tree h) (omega (arith, size, e, t))

pub overflow_mul-at : goal.overflow_mul-at
overflow_mul-at c =
    let small = size_small c.args.blob.now c.in_ok-list.list c.in_ok-list.ensures.list in
    let e = c.saturating_sub-count.ensures in
    let t = c.if-index-count.false in
    omega (arith, small, e, t)

pub gap_in-requires : goal.gap_in-requires
gap_in-requires c =
    let e = c.saturating_sub-count.ensures in
    let t = c.if-index-count.false in
    listed c.args.blob.now c.in_ok-list.list c.in_ok-list.ensures.list _ 0 (omega arith) (omega (arith, e, t)) (omega arith)

pub returns-in_err-gap-clause-fault : goal.returns-in_err-gap-clause-fault
returns-in_err-gap-clause-fault c = λ tree h.
    let e = c.saturating_sub-count.ensures in
    let t = c.if-index-count.false in
    absurd (pairs_less c.in_ok-list.list _ (length c.args.blob.now) (listed c.args.blob.now c.in_ok-list.list c.in_ok-list.ensures.list _ 0 (omega arith) (omega (arith, e, t)) (omega arith)) c.in_err-gap.ensures.1)

pub fill-requires : goal.fill-requires
fill-requires c =
    let e = c.saturating_sub-count.ensures in
    let t = c.if-index-count.false in
    open_list c.in_ok-list.list _ 0 (length c.args.blob.now) c.in_ok-gap.gap (listed c.args.blob.now c.in_ok-list.list c.in_ok-list.ensures.list _ 0 (omega arith) (omega (arith, e, t)) (omega arith)) c.in_ok-gap.ensures

pub returns-clause-held : goal.returns-clause-held
returns-clause-held c = λ tree h.
    let size = size_of c.args.blob.now c.in_ok-list.list c.in_ok-list.ensures.list tree h in
    let e = c.saturating_sub-count.ensures in
    let t = c.if-index-count.false in
    held_removed c.args.blob.now c.in_ok-list.list c.in_ok-list.ensures.list c.args.index c.in_ok-gap.gap c.fill.new.blob c.in_ok-gap.ensures
    (listed c.args.blob.now c.in_ok-list.list c.in_ok-list.ensures.list _ 0 (omega arith) (omega (arith, e, t)) (omega arith)) c.fill.ensures tree h (omega (arith, size, e, t))

pub returns-clause-fault : goal.returns-clause-fault
returns-clause-fault c = λ tree h.
    let size = size_of c.args.blob.now c.in_ok-list.list c.in_ok-list.ensures.list tree h in
    let e = c.saturating_sub-count.ensures in
    let t = c.if-index-count.false in
    an_index c.args.blob.now tree c.args.index (c.in_ok-list.ensures.fault tree h) (omega (arith, size, e, t))
