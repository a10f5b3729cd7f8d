-- Zeros everywhere, and then the bytes in front.
use Rattle.std.proofs.Common.{◌≡◌, ◌∙◌, ap, sym, ℕ, ◌-◌, List, ◌++◌, length, replicate}
use Rattle.dt_patch.specs.Private.Places.{put_at}
use Rattle.dt_patch.proofs.Empties.{drop_zeros, empty_bytes, empty_is}
use Rattle.dt_patch.proofs.creating.put_empty.Goals as goal

pub returns : goal.returns
returns c =
    let size = length c.args.buffer.now in
    c.put.ensures
    ∙ ap (λ (x : List ℕ). put_at x 0 empty_bytes) (c.fill.ensures.after (λ y h. h))
    ∙ ap (λ (x : List ℕ). empty_bytes ++ x) (drop_zeros 80 size)
    ∙ ap (λ (x : List ℕ). x ++ replicate (size - 80) 0) (sym empty_is)
