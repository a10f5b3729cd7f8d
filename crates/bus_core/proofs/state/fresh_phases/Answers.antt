use Rattle.std.proofs.Common.{◌≡◌, ◌∷◌, ◌++◌, [], ap, ◌∙◌, arith, replicate}
use Rattle.std.proofs.lemmas.List.{replicate_more}
use Rattle.bus_core.specs.declared.phase.Phase.TheVariants.{Fresh}
use Rattle.bus_core.proofs.state.fresh_phases.Goals as goal

pub loop-i-preserved : goal.loop-i-preserved
loop-i-preserved c = c.in_ok-push.ensures.items ∙ ap (λ xs. xs ++ Fresh ∷ []) c.loop-i.invariant ∙ replicate_more c.loop-i._i Fresh

pub returns : goal.returns
returns c =
    let done : c.loop-i._i ≡ c.args.count = omega arith
    in c.loop-i.invariant ∙ ap (λ n. replicate n Fresh) done
