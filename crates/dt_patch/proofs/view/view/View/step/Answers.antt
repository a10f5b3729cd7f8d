use Rattle.std.proofs.Common.{[], ◌∷◌}
use Rattle.dt_blob.specs.Token.{begin_node}
use Rattle.dt_patch.proofs.ViewLemmas.Beginnings.{shorter}
use Rattle.dt_patch.proofs.view.view.View.step.Goals as goal

pub returns-in_err-begun-clause-stands : goal.returns-in_err-begun-clause-stands
returns-in_err-begun-clause-stands c = λ d fs a. absurd (c.in_err-begun.ensures.0 d.name (shorter _ _ (begin_node d.name ∷ []) _ a))

pub returns-clause-stands : goal.returns-clause-stands
returns-clause-stands c = λ d fs a. c.step_from.ensures d.properties (d.children ∷ fs) ((c.in_ok-begun.ensures.ahead d.name _ a).2)

pub returns-clause-refused : goal.returns-clause-refused
returns-clause-refused c = λ n. absurd (n c.in_ok-begun.begun.name.now c.in_ok-begun.ensures.stands)
