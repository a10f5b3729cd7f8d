use Rattle.std.proofs.Common.{◌≡◌, ℕ, ◌+◌, ◌≤◌, List, ◌++◌, length, take, drop, ap, ◌∙◌, arith}
use Rattle.dt_blob.specs.BigEndian.{word}
use Rattle.dt_blob.proofs.Sizes.{length-word}
use Rattle.dt_patch.specs.Setting.{used_size}
use Rattle.dt_patch.specs.Sizing.{with_size}
use Rattle.dt_patch.proofs.Lists.{ends, held_sized, resized}
use Rattle.dt_patch.proofs.sizing.trim.Goals as goal

pub overflow_add-end : goal.overflow_add-end
overflow_add-end c =
    let e = ends c.args.blob.now c.in_ok-list.list c.in_ok-list.ensures.list in
    let strings = e.strings in
    let room = e.room in
    omega (arith, strings, room)

pub overflow_cast-end : goal.overflow_cast-end
overflow_cast-end c =
    let e = ends c.args.blob.now c.in_ok-list.list c.in_ok-list.ensures.list in
    let strings = e.strings in
    let room = e.room in
    omega (arith, strings, room)

pub returns-clause-held : goal.returns-clause-held
returns-clause-held c = λ tree h.
    let bytes : List ℕ = c.args.blob.now in
    let l = c.in_ok-list.list in
    let e = ends bytes l c.in_ok-list.ensures.list in
    let strings = e.strings in
    let room = e.room in
    held_sized bytes l c.in_ok-list.ensures.list (l.layout.strings_at + l.layout.strings_size) c.put_word.new.blob (omega arith) strings
    (resized bytes l c.in_ok-list.ensures.list (l.layout.strings_at + l.layout.strings_size) c.put_word.new.blob (omega (arith, strings, room)) c.put_word.ensures) tree h

pub returns-clause-told : goal.returns-clause-told
returns-clause-told c =
    let bytes : List ℕ = c.args.blob.now in
    let l = c.in_ok-list.list in
    let laid = c.in_ok-list.ensures.list.planned.layout in
    let at = laid.strings_at in
    let size = laid.strings_size in
    let end : ℕ = l.layout.strings_at + l.layout.strings_size in
    let used : end ≡ used_size bytes = omega (arith, at, size) in
    c.put_word.ensures ∙ ap (λ (n : ℕ). take 4 bytes ++ (word end ++ drop (4 + n) bytes)) (length-word end) ∙ ap (λ (n : ℕ). with_size n bytes) used
