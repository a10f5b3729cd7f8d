use Rattle.std.proofs.Common.{ℕ, ◌+◌, List, ◌++◌, length, take, drop, ap, ◌∙◌, arith}
use Rattle.dt_blob.specs.BigEndian.{word}
use Rattle.dt_blob.proofs.Sizes.{length-word}
use Rattle.dt_patch.proofs.Lists.{ends, held_sized, resized}
use Rattle.dt_patch.proofs.sizing.grow.Goals as goal

pub overflow_cast-size : goal.overflow_cast-size
overflow_cast-size c = let e = (ends c.args.buffer.now c.in_ok-list_of.field-0 c.in_ok-list_of.ensures.list).room in omega (arith, e)

pub returns-clause-held : goal.returns-clause-held
returns-clause-held c = λ tree h.
    let bytes : List ℕ = c.args.buffer.now in
    let e = ends bytes c.in_ok-list_of.field-0 c.in_ok-list_of.ensures.list in
    let room = e.room in
    held_sized bytes c.in_ok-list_of.field-0 c.in_ok-list_of.ensures.list (length bytes) c.put_word.new.blob e.strings (omega arith)
    (resized bytes c.in_ok-list_of.field-0 c.in_ok-list_of.ensures.list (length bytes) c.put_word.new.blob (omega (arith, room)) c.put_word.ensures) tree h

pub returns-clause-told : goal.returns-clause-told
returns-clause-told c =
    let bytes : List ℕ = c.args.buffer.now in
    c.put_word.ensures ∙ ap (λ (n : ℕ). take 4 bytes ++ (word (length bytes) ++ drop (4 + n) bytes)) (length-word (length bytes))
