use Rattle.std.proofs.Common.{◌≡◌, ℕ, List, Option, unwrap_or, option_copied, ap, sym, ◌∙◌}
use Rattle.dt_tree.specs.Private.Merging.{named}
use Rattle.dt_tree.proofs.node.merging.merged_value.Goals as goal

pub returns-in-Some : goal.returns-in-Some
returns-in-Some c =
    let theirs = c.args.theirs.now in
    let p = c.args.property.now in
    let has : option_copied (named theirs p.name) ≡ option_copied (option_copied c.get.result) = ap (λ k. option_copied (named theirs k)) (sym c.as_bytes.ensures.value) ∙ ap option_copied (sym c.get.ensures.value) in
    sym (ap (λ (o : Option (List ℕ)). unwrap_or o p.value) (has ∙ ap (λ r. option_copied (option_copied r)) c.in-Some.is))
