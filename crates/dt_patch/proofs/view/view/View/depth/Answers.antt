use Rattle.std.proofs.Common.{◌≡◌, ℕ, ◌+◌, length, Some, ap, ◌∙◌, arith, [], ◌∷◌}
use Rattle.dt_blob.specs.Token.{begin_node}
use Rattle.dt_patch.specs.View.Reaching.{before_node}
use Rattle.dt_patch.proofs.ViewLemmas.Beginnings.{shorter}
use Rattle.dt_patch.proofs.ViewLemmas.Levels.{levels_node}
use Rattle.dt_patch.proofs.ViewLemmas.Walks.{lies_at}
use Rattle.dt_patch.proofs.view.view.View.depth.Goals as goal

pub returns-in_err-begun-clause-stands : goal.returns-in_err-begun-clause-stands
returns-in_err-begun-clause-stands c = λ tree path v i. absurd (c.in_err-begun.ensures.0 i.node.name (shorter _ _ (begin_node i.node.name ∷ []) _ i.stands))

pub returns-clause-stands : goal.returns-clause-stands
returns-clause-stands c = λ tree path v i.
    let l = lies_at c.args.self.now tree path c.args.node.at c.in_ok-begun.begun.name.now c.in_ok-begun.begun.at c.in_ok-begun.begun.next c.in_ok-begun.ensures v i in
    let none : 0 + length path ≡ length path = omega arith in
    c.levels_at.ensures (before_node tree.root path) _ _ (length path) l (levels_node path tree.root i.node 0 i.there ∙ ap (λ (n : ℕ). Some n) none)

pub returns-clause-refused : goal.returns-clause-refused
returns-clause-refused c = λ n. absurd (n c.in_ok-begun.begun.name.now c.in_ok-begun.ensures.stands)
