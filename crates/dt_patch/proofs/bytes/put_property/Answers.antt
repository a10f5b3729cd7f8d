use Rattle.std.proofs.Common.{ℕ, ◌+◌, length, arith}
use Rattle.dt_blob.specs.BigEndian.{word}
use Rattle.dt_blob.specs.Blob.{padding}
use Rattle.dt_blob.proofs.Sizes.{length-word}
use Rattle.dt_patch.proofs.Makes.{length-property}
use Rattle.dt_patch.proofs.Puts.{long_after, put_five}
use Rattle.dt_patch.proofs.bytes.put_property.Goals as goal

pub put_word-requires : goal.put_word-requires
put_word-requires c = omega (arith, c.requires.room, length-property c.args.name c.args.value.now)

pub put_word-requires-2 : goal.put_word-requires-2
put_word-requires-2 c =
    let w = length-property c.args.name c.args.value.now in
    let room = c.requires.room in
    let a = long_after c.args.blob.now c.put_word.new.blob c.args.at (word 3) c.put_word.ensures (omega (arith, room, w, length-word 3)) in
    omega (arith, room, w, a)

pub put_word-requires-3 : goal.put_word-requires-3
put_word-requires-3 c =
    let n : ℕ = length c.args.value.now in
    let w = length-property c.args.name c.args.value.now in
    let room = c.requires.room in
    let a = long_after c.args.blob.now c.put_word.new.blob c.args.at (word 3) c.put_word.ensures (omega (arith, room, w, length-word 3)) in
    let b = long_after c.put_word.new.blob c.put_word-2.new.blob (c.args.at + 4) (word n) c.put_word-2.ensures (omega (arith, room, w, a, length-word n)) in
    omega (arith, room, w, a, b)

pub put-requires : goal.put-requires
put-requires c =
    let n : ℕ = length c.args.value.now in
    let w = length-property c.args.name c.args.value.now in
    let room = c.requires.room in
    let a = long_after c.args.blob.now c.put_word.new.blob c.args.at (word 3) c.put_word.ensures (omega (arith, room, w, length-word 3)) in
    let b = long_after c.put_word.new.blob c.put_word-2.new.blob (c.args.at + 4) (word n) c.put_word-2.ensures (omega (arith, room, w, a, length-word n)) in
    let d = long_after c.put_word-2.new.blob c.put_word-3.new.blob (c.args.at + 8) (word c.args.name) c.put_word-3.ensures (omega (arith, room, w, a, b, length-word c.args.name)) in
    omega (arith, room, w, a, b, d)

pub put_padding-requires : goal.put_padding-requires
put_padding-requires c =
    let n : ℕ = length c.args.value.now in
    let w = length-property c.args.name c.args.value.now in
    let room = c.requires.room in
    let a = long_after c.args.blob.now c.put_word.new.blob c.args.at (word 3) c.put_word.ensures (omega (arith, room, w, length-word 3)) in
    let b = long_after c.put_word.new.blob c.put_word-2.new.blob (c.args.at + 4) (word n) c.put_word-2.ensures (omega (arith, room, w, a, length-word n)) in
    let d = long_after c.put_word-2.new.blob c.put_word-3.new.blob (c.args.at + 8) (word c.args.name) c.put_word-3.ensures (omega (arith, room, w, a, b, length-word c.args.name)) in
    let e = long_after c.put_word-3.new.blob c.put.new.blob (c.args.at + 12) c.args.value.now c.put.ensures (omega (arith, room, w, a, b, d)) in
    omega (arith, room, w, a, b, d, e)

pub returns : goal.returns
returns c =
    let n : ℕ = length c.args.value.now in
    let room = c.requires.room in
    let w = length-property c.args.name c.args.value.now in
    put_five c.args.blob.now c.put_word.new.blob c.put_word-2.new.blob c.put_word-3.new.blob c.put.new.blob c.put_padding.new.blob c.args.at (word 3) (word n) (word c.args.name) c.args.value.now (padding n) (omega (arith, room, w))
    (length-word 3) (length-word n) (length-word c.args.name) c.put_word.ensures c.put_word-2.ensures c.put_word-3.ensures c.put.ensures c.put_padding.ensures
