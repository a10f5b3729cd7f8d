use Rattle.std.proofs.Common.{◌≡◌, ◌∷◌, ◌++◌, [], ap, ◌∙◌, arith, None, replicate}
use Rattle.std.proofs.lemmas.List.{replicate_more}
use Rattle.bus_core.proofs.SetLemmas.{none-placed, none-view}
use Rattle.bus_core.proofs.device_set.DeviceSet.new.Goals as goal

pub loop-i-preserved : goal.loop-i-preserved
loop-i-preserved c = c.in_ok-push.ensures.items ∙ ap (λ xs. xs ++ None ∷ []) c.loop-i.invariant ∙ replicate_more c.loop-i._i None

pub invariant_of-result : goal.invariant_of-result
invariant_of-result c =
    let done : c.loop-i._i ≡ c.args.count = omega arith
    in none-placed c.in_ok-members.members.items c.loop-i.places.items c.args.count _ c.in_ok-members.ensures.items
    (c.loop-i.invariant ∙ ap (λ n. replicate n None) done) (omega (arith, c.in_ok-members.ensures.exact))

pub returns : goal.returns
returns c =
    let done : c.loop-i._i ≡ c.args.count = omega arith
    in none-view c.loop-i.places.items c.args.count (c.loop-i.invariant ∙ ap (λ n. replicate n None) done)
