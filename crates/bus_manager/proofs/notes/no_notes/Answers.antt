use Rattle.std.proofs.Common.{◌≡◌, ℕ, List, [], ◌∷◌, ◌++◌, Option, None, ap, ◌∙◌, arith}
use Rattle.std.specs.Prelude.{replicate}
use Rattle.std.proofs.lemmas.List.{replicate_more}
use Rattle.bus_manager.proofs.notes.no_notes.Goals as goal

pub loop-i-preserved : goal.loop-i-preserved
loop-i-preserved g c =
    c.in_ok-push.ensures.items ∙ ap (λ (l : List (Option g.row.N.Denot)). l ++ None ∷ []) c.loop-i.invariant
    ∙ replicate_more c.loop-i._i None

pub returns : goal.returns
returns g c =
    let end : c.loop-i._i ≡ c.args.count = omega arith in
    c.loop-i.invariant ∙ ap (λ (n : ℕ). replicate {A = Option g.row.N.Denot} n None) end
