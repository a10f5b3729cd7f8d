use Rattle.std.proofs.Common.{◌*◌, refl, inl, inr, arith}
use Rattle.std.proofs.lemmas.Result.{err_from_is_err_and}
use Rattle.dtman_blobs.proofs.WideningLemmas.{IsGiven, size_is, room_is, room_held, none_outside}
use Rattle.dtman_blobs.proofs.widening.with_room.Goals as goal

pub returns-then-size-from-clause-made : goal.returns-then-size-from-clause-made
returns-then-size-from-clause-made c = λ tree i e.
    let g : IsGiven tree c.args.room.now c.args.blob.now (16 * c.from-zeros.result) c.asked_size-size.result = record { is = i; bytes = e; many = omega (arith, c.from-zeros.ensures); asked = c.asked_size-size.ensures } in
    let s = size_is tree c.args.room.now c.args.blob.now (16 * c.from-zeros.result) c.asked_size-size.result g in
    inr (refl, omega (arith, s, c.if-size-from.true, c.from.ensures))

pub returns-in_err-wide-clause-made : goal.returns-in_err-wide-clause-made
returns-in_err-wide-clause-made c = let p = err_from_is_err_and c.from_residual.result c.from_residual.ensures.1 in λ tree i e. rw p.1 (inl p.2)

pub returns-in_err-put_moved-clause-made : goal.returns-in_err-put_moved-clause-made
returns-in_err-put_moved-clause-made c = let p = err_from_is_err_and c.from_residual-in_err-put_moved.result c.from_residual-in_err-put_moved.ensures.1 in λ tree i e. rw p.1 (inl p.2)

pub returns-in_default-clause-made : goal.returns-in_default-clause-made
returns-in_default-clause-made c = λ tree i e.
    let g : IsGiven tree c.args.room.now c.args.blob.now (16 * c.from-zeros.result) c.asked_size-size.result = record { is = i; bytes = e; many = omega (arith, c.from-zeros.ensures); asked = c.asked_size-size.ensures } in
    absurd (none_outside tree c.args.room.now c.args.blob.now (16 * c.from-zeros.result) c.asked_size-size.result g (omega (arith, c.if-size-from.false, c.from.ensures)) c.in_default.ensures)

pub returns-clause-made : goal.returns-clause-made
returns-clause-made c = λ tree i e.
    let g : IsGiven tree c.args.room.now c.args.blob.now (16 * c.from-zeros.result) c.asked_size-size.result = record { is = i; bytes = e; many = omega (arith, c.from-zeros.ensures); asked = c.asked_size-size.ensures } in
    let p = c.in-Some.ensures in
    room_is tree c.args.room.now c.args.blob.now c.put_moved.new.out.items c.in_ok-wide.wide.items c.in-Some.places.structure_at c.in-Some.places.strings_at (16 * c.from-zeros.result) c.asked_size-size.result
    g (omega (arith, c.if-size-from.false, c.from.ensures)) c.in_ok-wide.ensures.items p.0 p.1 c.in_ok-put_moved.ensures

pub returns-clause-held : goal.returns-clause-held
returns-clause-held c = λ tree i e. room_held tree c.args.room.now c.put_moved.new.out.items i (returns-clause-made c tree i e)
