use Rattle.std.proofs.Common.{[], ◌∷◌, ◌++◌}
use Rattle.dt_blob.specs.Token.{begin_node, sibling_tokens}
use Rattle.dt_patch.proofs.ViewLemmas.Beginnings.{shorter}
use Rattle.dt_patch.proofs.ViewLemmas.Descents.{behind_begin}
use Rattle.dt_patch.proofs.view.view.View.next_sibling.Goals as goal

pub returns-in_err-begun-clause-stands : goal.returns-in_err-begun-clause-stands
returns-in_err-begun-clause-stands c = λ name ps children rest s. absurd (c.in_err-begun.ensures.0 name (shorter _ _ (begin_node name ∷ []) _ (s.2)))

pub returns-in_err-end-clause-stands : goal.returns-in_err-end-clause-stands
returns-in_err-end-clause-stands c =
    λ name ps children rest s. absurd (c.in_err-end.ensures.inside ps children (sibling_tokens rest ++ s.0 ∷ []) (behind_begin c.args.self.now c.in_ok-begun.begun.next ps children rest (s.0 ∷ []) ((c.in_ok-begun.ensures.ahead name _ (s.2)).2)))

pub returns-in_err-end-clause-refused : goal.returns-in_err-end-clause-refused
returns-in_err-end-clause-refused c = λ n. absurd (n c.in_ok-begun.begun.name.now c.in_ok-begun.ensures.stands)

pub returns-clause-stands : goal.returns-clause-stands
returns-clause-stands c =
    λ name ps children rest s. c.node_from.ensures [] rest (s.0) (s.1)
    (c.in_ok-end.ensures.inside ps children (sibling_tokens rest ++ s.0 ∷ []) (behind_begin c.args.self.now c.in_ok-begun.begun.next ps children rest (s.0 ∷ []) ((c.in_ok-begun.ensures.ahead name _ (s.2)).2)))

pub returns-clause-refused : goal.returns-clause-refused
returns-clause-refused c = λ n. absurd (n c.in_ok-begun.begun.name.now c.in_ok-begun.ensures.stands)
