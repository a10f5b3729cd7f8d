use Rattle.std.proofs.Common.{arith}
use Rattle.std.proofs.lemmas.Result.{err_from_is_err_and}
use Rattle.dt_blob.proofs.Laying.{in_place_as}
use Rattle.dt_blob.proofs.read_blocks.blocks_in.Goals as goal

pub returns-in_err-header : goal.returns-in_err-header
returns-in_err-header c =
    let p = err_from_is_err_and c.from_residual.result c.from_residual.ensures.1 in
    rw (p.1, p.2) c.in_err-header.ensures

pub first-blob-requires : goal.first-blob-requires
first-blob-requires c = (in_place_as c.args.bytes.now c.in_ok-header.header c.in_ok-header.ensures.0 c.in_ok-header.ensures.1).size

pub overflow_sub-header : goal.overflow_sub-header
overflow_sub-header c = (in_place_as c.args.bytes.now c.in_ok-header.header c.in_ok-header.ensures.0 c.in_ok-header.ensures.1).structure

pub block-requires : goal.block-requires
block-requires c =
    let l = in_place_as c.args.bytes.now c.in_ok-header.header c.in_ok-header.ensures.0 c.in_ok-header.ensures.1 in
    let s = l.size in
    let b = l.room in
    omega (arith, s, b, c.unwrap_or-room.ensures)

pub block-requires-2 : goal.block-requires-2
block-requires-2 c =
    let l = in_place_as c.args.bytes.now c.in_ok-header.header c.in_ok-header.ensures.0 c.in_ok-header.ensures.1 in
    let s = l.size in
    let b = l.strings in
    omega (arith, s, b)
