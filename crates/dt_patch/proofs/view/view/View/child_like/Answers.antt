use Rattle.std.proofs.Common.{refl, [], ◌∷◌}
use Rattle.dt_blob.specs.Token.{begin_node, end_node}
use Rattle.dt_patch.proofs.ViewLemmas.Beginnings.{shorter}
use Rattle.dt_patch.proofs.view.view.View.child_like.Goals as goal

pub returns-in_err-begun-clause-stands : goal.returns-in_err-begun-clause-stands
returns-in_err-begun-clause-stands c = λ d a. absurd (c.in_err-begun.ensures.0 d.name (shorter _ _ (begin_node d.name ∷ []) _ a))

pub returns-clause-stands : goal.returns-clause-stands
returns-clause-stands c = λ d a. c.child_like_from.ensures d.properties d.children end_node refl ((c.in_ok-begun.ensures.ahead d.name _ a).2)

pub returns-clause-refused : goal.returns-clause-refused
returns-clause-refused c = λ n. absurd (n c.in_ok-begun.begun.name.now c.in_ok-begun.ensures.stands)
