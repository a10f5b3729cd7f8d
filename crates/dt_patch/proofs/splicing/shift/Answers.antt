use Rattle.std.proofs.Common.{◌≡◌, ℕ, ◌+◌, ◌-◌, ◌++◌, length, take, drop, ap, ◌∙◌, arith, append_assoc, length-drop}
use Rattle.std.proofs.lemmas.List.{length-take}
use Rattle.dt_patch.specs.Private.Splicing.{between}
use Rattle.dt_patch.proofs.splicing.shift.Goals as goal

pub returns : goal.returns
returns c =
    let x = c.args.blob.now in
    let part = between c.args.from c.args.end x in
    let first = c.requires.first in
    let inside = c.requires.inside in
    let wide : c.args.end - c.args.from ≡ length part = omega (arith, first, inside, length-take (c.args.end - c.args.from) (drop c.args.from x), length-drop c.args.from x) in
    c.copy_within.ensures.after ∙ append_assoc (take c.args.to x) part (drop (c.args.to + (c.args.end - c.args.from)) x) ∙ ap (λ (k : ℕ). take c.args.to x ++ (part ++ drop (c.args.to + k) x)) wide
