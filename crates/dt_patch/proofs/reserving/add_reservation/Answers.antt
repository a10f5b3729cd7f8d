use Rattle.std.proofs.Common.{ℕ, List, [], length, Some, refl, ap, sym, subst, ◌∙◌, arith}
use Rattle.std.proofs.lemmas.Result.{err_from_is_err_and}
use Rattle.dt_patch.specs.Private.Cutting.{IsOpen}
use Rattle.dt_patch.specs.Private.Splicing.{IsRelaid, spliced}
use Rattle.dt_patch.proofs.Fills.{enough, short_by}
use Rattle.dt_patch.proofs.Found.{then_ordered, then_unordered, told_first}
use Rattle.dt_patch.proofs.Lists.{held_added, is_end, is_pair, listed, not_end, open_list, pairs_wanted_as, put_pair}
use Rattle.dt_patch.proofs.Makes.{told_before}
use Rattle.dt_patch.proofs.Pairs.{length-pair}
use Rattle.dt_patch.proofs.reserving.add_reservation.Goals as goal

pub returns-then-ends_list-clause-fault : goal.returns-then-ends_list-clause-fault
returns-then-ends_list-clause-fault c = λ tree h. told_before _ _ _ _ (told_first _ _ _ (is_end (c.args.address, c.args.size) (sym c.ends_list.ensures ∙ c.if-ends_list.true)))

pub returns-in_err-list-clause-fault : goal.returns-in_err-list-clause-fault
returns-in_err-list-clause-fault c =
    let p = err_from_is_err_and c.from_residual.result c.from_residual.ensures.1 in
    λ tree h.
    let f = c.in_err-list.ensures.fault tree h in
    rw (p.1, p.2) (told_before _ _ _ _ (then_unordered _ _ (not_end (c.args.address, c.args.size) (sym c.ends_list.ensures ∙ c.if-ends_list.false)) f.1 ∙ ap Some (sym f.0)))

pub gap_in-requires : goal.gap_in-requires
gap_in-requires c = let e = c.saturating_sub-place.ensures in listed c.args.blob.now c.in_ok-list.list c.in_ok-list.ensures.list _ 16 (omega arith) (omega (arith, e)) (omega arith)

pub returns-in_err-gap-clause-fault : goal.returns-in_err-gap-clause-fault
returns-in_err-gap-clause-fault c =
    let p = err_from_is_err_and c.from_residual-in_err-gap.result c.from_residual-in_err-gap.ensures.1 in
    λ tree h.
    rw (p.1, p.2) (short_by _ _ _ _ _ (then_ordered _ _ (not_end (c.args.address, c.args.size) (sym c.ends_list.ensures ∙ c.if-ends_list.false)) (c.in_ok-list.ensures.fault tree h))
    (pairs_wanted_as c.args.blob.now c.in_ok-list.list c.in_ok-list.ensures.list c.saturating_sub-place.result) c.in_err-gap.ensures.0 c.in_err-gap.ensures.1)

pub fill-requires : goal.fill-requires
fill-requires c =
    let pair : ℕ × ℕ = (c.args.address, c.args.size) in
    let same = put_pair _ c.put_long.new.blob c.put_long-2.new.blob pair refl c.put_long.ensures c.put_long-2.ensures in
    let e = c.saturating_sub-place.ensures in
    subst (λ (n : ℕ). IsOpen c.in_ok-gap.gap n (length c.args.blob.now)) (sym (ap length same ∙ length-pair pair))
    (open_list c.in_ok-list.list _ 16 (length c.args.blob.now) c.in_ok-gap.gap (listed c.args.blob.now c.in_ok-list.list c.in_ok-list.ensures.list _ 16 (omega arith) (omega (arith, e)) (omega arith)) c.in_ok-gap.ensures)

pub returns-clause-held : goal.returns-clause-held
returns-clause-held c = λ tree h.
    let pair : ℕ × ℕ = (c.args.address, c.args.size) in
    let gap = c.in_ok-gap.gap in
    let same = put_pair _ c.put_long.new.blob c.put_long-2.new.blob pair refl c.put_long.ensures c.put_long-2.ensures in
    held_added c.args.blob.now c.in_ok-list.list c.in_ok-list.ensures.list pair c.saturating_sub-place.result gap c.fill.new.blob c.saturating_sub-place.ensures c.in_ok-gap.ensures
    (subst (λ (x : List ℕ). IsRelaid (spliced c.args.blob.now gap.at gap.next gap.end x []) c.fill.new.blob gap.layout) same c.fill.ensures) c.ranges.address.fits c.ranges.size.fits
    (is_pair pair (sym c.ends_list.ensures ∙ c.if-ends_list.false)) tree h

pub returns-clause-fault : goal.returns-clause-fault
returns-clause-fault c = λ tree h.
    enough _ _ _ _ (then_ordered _ _ (not_end (c.args.address, c.args.size) (sym c.ends_list.ensures ∙ c.if-ends_list.false)) (c.in_ok-list.ensures.fault tree h))
    (pairs_wanted_as c.args.blob.now c.in_ok-list.list c.in_ok-list.ensures.list c.saturating_sub-place.result) c.in_ok-gap.ensures.fits
