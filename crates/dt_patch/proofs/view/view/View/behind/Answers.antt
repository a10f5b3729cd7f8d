use Rattle.std.proofs.Common.{◌≡◌, ap, subst, ◌∙◌, append_assoc, ℕ, List, [], ◌∷◌, ◌++◌}
use Rattle.dt_blob.specs.Token.{Token, begin_node, end_node, property_tokens, sibling_tokens, tokens_of}
use Rattle.dt_patch.specs.View.Reaching.{Reached}
use Rattle.dt_patch.proofs.ViewLemmas.Beginnings.{shorter}
use Rattle.dt_patch.proofs.view.view.View.behind.Goals as goal

pub returns-in_err-begun-clause-reached : goal.returns-in_err-begun-clause-reached
returns-in_err-begun-clause-reached c = λ d before a r. absurd (c.in_err-begun.ensures.0 d.name (shorter _ _ (begin_node d.name ∷ []) _ a))

pub returns-in-Ok-clause-refused : goal.returns-in-Ok-clause-refused
returns-in-Ok-clause-refused c = λ n. absurd (n c.in_ok-begun.begun.name.now c.in_ok-begun.ensures.stands)

pub returns-in-Ok-clause-reached : goal.returns-in-Ok-clause-reached
returns-in-Ok-clause-reached c = λ d before a r.
    let p = c.in_ok-begun.ensures.ahead d.name _ a in
    let own = c.in_ok-begun.begun.name.now in
    let inner : List Token = property_tokens d.properties ++ (sibling_tokens d.children ++ end_node ∷ []) in
    let same : (before ++ begin_node own ∷ []) ++ inner ≡ before ++ tokens_of d = append_assoc before (begin_node own ∷ []) inner ∙ ap (λ (x : List ℕ). before ++ begin_node x ∷ inner) (p.0) in
    subst (λ (x : List Token). Reached c.args.self.now c.in-Ok.at x) same
    (c.in-Ok.ensures.reached d.properties d.children [] (before ++ begin_node own ∷ []) (p.2) (c.in_ok-begun.ensures.reach before r).1)

pub returns-in-Err-clause-reached : goal.returns-in-Err-clause-reached
returns-in-Err-clause-reached c = λ d before a r.
    let p = c.in_ok-begun.ensures.ahead d.name _ a in
    absurd (c.in-Err.ensures.inside d.properties d.children [] (p.2))
