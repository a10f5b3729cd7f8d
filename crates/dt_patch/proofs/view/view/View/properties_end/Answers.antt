use Rattle.std.proofs.Common.{◌≡◌, ap, subst, ◌∙◌, append_assoc, List, ℕ, [], ◌∷◌, ◌++◌}
use Rattle.std.specs.Prelude.{IsOkAnd}
use Rattle.dt_blob.specs.Token.{Token, begin_node, property_tokens}
use Rattle.dt_patch.specs.View.Reaching.{Reached}
use Rattle.dt_patch.proofs.ViewLemmas.Beginnings.{shorter}
use Rattle.dt_patch.proofs.ViewLemmas.Holdings.{listed}
use Rattle.dt_patch.proofs.view.view.View.properties_end.Goals as goal

pub returns-in_err-begun-clause-reached : goal.returns-in_err-begun-clause-reached
returns-in_err-begun-clause-reached c = λ d before a r. absurd (c.in_err-begun.ensures.0 d.name (shorter _ _ (begin_node d.name ∷ []) _ a))

pub returns-clause-refused : goal.returns-clause-refused
returns-clause-refused c = λ n. absurd (n c.in_ok-begun.begun.name.now c.in_ok-begun.ensures.stands)

pub returns-clause-reached : goal.returns-clause-reached
returns-clause-reached c = λ d before a r.
    let p = c.in_ok-begun.ensures.ahead d.name _ a in
    let own = c.in_ok-begun.begun.name.now in
    let props : List Token = property_tokens d.properties in
    let l = listed c.args.self.now c.in_ok-begun.begun.next d.properties d.children [] (p.2) in
    let same : (before ++ begin_node own ∷ []) ++ props ≡ before ++ begin_node d.name ∷ props = append_assoc before (begin_node own ∷ []) props ∙ ap (λ (x : List ℕ). before ++ begin_node x ∷ props) (p.0) in
    subst (λ (x : List Token). IsOkAnd c.properties_end_from.result (λ at. Reached c.args.self.now at x)) same
    (c.properties_end_from.ensures.reached d.properties l.token (before ++ begin_node own ∷ []) l.ends l.stands (c.in_ok-begun.ensures.reach before r).1)
