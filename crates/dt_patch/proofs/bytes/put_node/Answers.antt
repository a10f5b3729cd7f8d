use Rattle.std.proofs.Common.{ℕ, ◌+◌, [], ◌∷◌, length, arith}
use Rattle.dt_blob.specs.BigEndian.{word}
use Rattle.dt_blob.specs.Blob.{padding}
use Rattle.dt_blob.proofs.Sizes.{length-padding, length-word}
use Rattle.dt_patch.proofs.Nodes.{length-node, put_pieces}
use Rattle.dt_patch.proofs.Puts.{long_after}
use Rattle.dt_patch.proofs.bytes.put_node.Goals as goal

pub put-requires : goal.put-requires
put-requires c =
    let n : ℕ = length c.args.name.now in
    let w = length-node c.args.name.now in
    let room = c.requires.room in
    let a = long_after c.args.blob.now c.put_word.new.blob c.args.at (word 1) c.put_word.ensures (omega (arith, room, w, length-word 1)) in
    omega (arith, room, w, a)

pub put-requires-2 : goal.put-requires-2
put-requires-2 c =
    let n : ℕ = length c.args.name.now in
    let w = length-node c.args.name.now in
    let room = c.requires.room in
    let a = long_after c.args.blob.now c.put_word.new.blob c.args.at (word 1) c.put_word.ensures (omega (arith, room, w, length-word 1)) in
    let b = long_after c.put_word.new.blob c.put.new.blob (c.args.at + 4) c.args.name.now c.put.ensures (omega (arith, room, w, a)) in
    omega (arith, room, w, a, b)

pub put_padding-requires : goal.put_padding-requires
put_padding-requires c =
    let n : ℕ = length c.args.name.now in
    let w = length-node c.args.name.now in
    let room = c.requires.room in
    let a = long_after c.args.blob.now c.put_word.new.blob c.args.at (word 1) c.put_word.ensures (omega (arith, room, w, length-word 1)) in
    let b = long_after c.put_word.new.blob c.put.new.blob (c.args.at + 4) c.args.name.now c.put.ensures (omega (arith, room, w, a)) in
    let d = long_after c.put.new.blob c.put-2.new.blob (c.args.at + 4 + n) (0 ∷ []) c.put-2.ensures (omega (arith, room, w, a, b)) in
    omega (arith, room, w, a, b, d)

pub put_word-requires-2 : goal.put_word-requires-2
put_word-requires-2 c =
    let n : ℕ = length c.args.name.now in
    let w = length-node c.args.name.now in
    let room = c.requires.room in
    let a = long_after c.args.blob.now c.put_word.new.blob c.args.at (word 1) c.put_word.ensures (omega (arith, room, w, length-word 1)) in
    let b = long_after c.put_word.new.blob c.put.new.blob (c.args.at + 4) c.args.name.now c.put.ensures (omega (arith, room, w, a)) in
    let d = long_after c.put.new.blob c.put-2.new.blob (c.args.at + 4 + n) (0 ∷ []) c.put-2.ensures (omega (arith, room, w, a, b)) in
    let e = long_after c.put-2.new.blob c.put_padding.new.blob (c.args.at + 4 + n + 1) (padding (n + 1)) c.put_padding.ensures (omega (arith, room, w, a, b, d, length-padding (n + 1))) in
    omega (arith, room, w, a, b, d, e)

pub returns : goal.returns
returns c =
    let w = length-node c.args.name.now in
    let room = c.requires.room in
    put_pieces c.args.blob.now c.put_word.new.blob c.put.new.blob c.put-2.new.blob c.put_padding.new.blob c.put_word-2.new.blob c.args.at c.args.name.now (omega (arith, room, w))
    c.put_word.ensures c.put.ensures c.put-2.ensures c.put_padding.ensures c.put_word-2.ensures
