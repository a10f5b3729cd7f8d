use Rattle.std.proofs.Common.{◌≡◌, ℕ, ◌+◌, ◌-◌, ◌*◌, ◌/◌, ◌++◌, length, take, drop, ap, ◌∙◌, arith}
use Rattle.dt_blob.specs.HeaderWords.{word_at}
use Rattle.dt_patch.specs.Nopping.{nops}
use Rattle.dt_patch.specs.Private.Places.{put_at}
use Rattle.dt_patch.proofs.Nops.{length-nops, lies_inside}
use Rattle.dt_patch.proofs.nopping.put_out.Goals as goal

pub put_nops-requires : goal.put_nops-requires
put_nops-requires c =
    let first = c.requires.first in
    let whole = c.requires.whole in
    let inside = lies_inside c.args.blob.now c.args.at c.args.next first c.requires.inside in
    let from = c.structure_at.ensures in
    omega (arith, first, whole, inside, from)

pub returns : goal.returns
returns c =
    let x = c.args.blob.now in
    let n : ℕ = (c.args.next - c.args.at) / 4 in
    let first = c.requires.first in
    let whole = c.requires.whole in
    let place : ℕ = word_at 8 x + c.args.at in
    let wide : length (nops n) ≡ c.args.next - c.args.at = omega (arith, whole, length-nops n) in
    c.put_nops.ensures
    ∙ ap (λ (k : ℕ). put_at x (k + c.args.at) (nops n)) c.structure_at.ensures
    ∙ ap (λ (k : ℕ). take place x ++ (nops n ++ drop (place + k) x)) wide
