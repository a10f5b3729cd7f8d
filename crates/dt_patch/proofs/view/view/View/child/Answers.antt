use Rattle.std.proofs.Common.{refl, [], ◌∷◌, ◌++◌, List}
use Rattle.dt_blob.specs.Token.{Token, begin_node, end_node, property_tokens}
use Rattle.dt_patch.specs.View.Reaching.{before_child}
use Rattle.dt_patch.proofs.ViewLemmas.Beginnings.{shorter}
use Rattle.dt_patch.proofs.ViewLemmas.Reaches.{behind_name}
use Rattle.dt_patch.proofs.view.view.View.child.Goals as goal

pub returns-in_err-begun-clause-stands : goal.returns-in_err-begun-clause-stands
returns-in_err-begun-clause-stands c = λ d a. absurd (c.in_err-begun.ensures.0 d.name (shorter _ _ (begin_node d.name ∷ []) _ a))

pub returns-clause-stands : goal.returns-clause-stands
returns-clause-stands c = λ d a. c.child_from.ensures.found d.properties d.children end_node refl ((c.in_ok-begun.ensures.ahead d.name _ a).2)

pub returns-clause-refused : goal.returns-clause-refused
returns-clause-refused c = λ n. absurd (n c.in_ok-begun.begun.name.now c.in_ok-begun.ensures.stands)

pub returns-in_err-begun-clause-reached : goal.returns-in_err-begun-clause-reached
returns-in_err-begun-clause-reached c = λ d before a r. absurd (c.in_err-begun.ensures.0 d.name (shorter _ _ (begin_node d.name ∷ []) _ a))

pub returns-clause-reached : goal.returns-clause-reached
returns-clause-reached c = λ d before a r.
    let p = c.in_ok-begun.ensures.ahead d.name _ a in
    let within : List Token = property_tokens d.properties ++ before_child d.children c.args.name.now in
    behind_name c.args.self.now c.child_from.result before within d.name c.in_ok-begun.begun.name.now (p.0)
    (c.child_from.ensures.reached d.properties d.children end_node (before ++ begin_node c.in_ok-begun.begun.name.now ∷ []) refl (p.2) (c.in_ok-begun.ensures.reach before r).1)
