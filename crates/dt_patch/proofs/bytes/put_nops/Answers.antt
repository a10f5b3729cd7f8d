use Rattle.std.proofs.Common.{ℕ, ◌+◌, ◌*◌, length, ap, ◌∙◌, arith}
use Rattle.dt_blob.specs.BigEndian.{word}
use Rattle.dt_patch.specs.Nopping.{nops}
use Rattle.dt_patch.specs.Private.Places.{put_at}
use Rattle.dt_patch.proofs.Nops.{length-nops, nops_more}
use Rattle.dt_patch.proofs.Puts.{put_more}
use Rattle.dt_patch.proofs.bytes.put_nops.Goals as goal

pub loop-place-preserved : goal.loop-place-preserved
loop-place-preserved c =
    let x = c.args.blob.now in
    let n = c.loop-place.place in
    let wide = length-nops n in
    let room = c.requires in
    let more = nops_more n in
    put_more x c.loop-place.blob c.put_word.new.blob c.args.at (c.args.at + 4 * n) (nops n) (word 4) (omega (arith, room)) c.loop-place.invariant (omega (arith, wide)) c.put_word.ensures
    ∙ ap (put_at x c.args.at) more
