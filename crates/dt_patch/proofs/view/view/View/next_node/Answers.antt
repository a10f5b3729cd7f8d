use Rattle.std.proofs.Common.{[], ◌∷◌}
use Rattle.dt_blob.specs.Token.{begin_node}
use Rattle.dt_patch.proofs.ViewLemmas.Beginnings.{shorter}
use Rattle.dt_patch.proofs.ViewLemmas.Orders.{next_as}
use Rattle.dt_patch.proofs.view.view.View.next_node.Goals as goal

pub returns-in_err-begun-clause-stands : goal.returns-in_err-begun-clause-stands
returns-in_err-begun-clause-stands c = λ d later s. absurd (c.in_err-begun.ensures.0 d.name (shorter _ _ (begin_node d.name ∷ []) _ (s.1)))

pub returns-clause-stands : goal.returns-clause-stands
returns-clause-stands c = λ d later s. next_as c.args.self.now c.node_behind.result later (s.2) (c.node_behind.ensures.left d.properties (d.children ∷ s.0) ((c.in_ok-begun.ensures.ahead d.name _ (s.1)).2))

pub returns-clause-refused : goal.returns-clause-refused
returns-clause-refused c = λ n. absurd (n c.in_ok-begun.begun.name.now c.in_ok-begun.ensures.stands)
