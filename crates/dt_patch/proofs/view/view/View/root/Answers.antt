use Rattle.std.proofs.Common.{[], ◌∷◌}
use Rattle.dt_blob.specs.Token.{begin_node, tokens_of}
use Rattle.dt_patch.proofs.ViewLemmas.Beginnings.{shorter}
use Rattle.dt_patch.proofs.ViewLemmas.Orders.{root_first}
use Rattle.dt_patch.proofs.ViewLemmas.Reaches.{reached_begin}
use Rattle.dt_patch.proofs.view.view.View.root.Goals as goal

pub returns-in_err-begun-clause-stands : goal.returns-in_err-begun-clause-stands
returns-in_err-begun-clause-stands c = λ t v. absurd (c.in_err-begun.ensures.0 t.root.name (shorter _ _ (begin_node t.root.name ∷ []) _ v.root))

pub returns-in_err-begun-clause-first : goal.returns-in_err-begun-clause-first
returns-in_err-begun-clause-first c = λ t v. absurd (c.in_err-begun.ensures.0 t.root.name (shorter _ _ (begin_node t.root.name ∷ []) _ v.root))

pub returns-clause-stands : goal.returns-clause-stands
returns-clause-stands c = λ t v. shorter _ _ (tokens_of t.root) _ ((c.in_ok-begun.ensures.ahead t.root.name _ v.root).1)

pub returns-clause-first : goal.returns-clause-first
returns-clause-first c = λ t v. root_first c.args.self.now c.in_ok-begun.begun.at t.root ((c.in_ok-begun.ensures.ahead t.root.name _ v.root).1)

pub returns-in_err-begun-clause-reached : goal.returns-in_err-begun-clause-reached
returns-in_err-begun-clause-reached c = λ t v. absurd (c.in_err-begun.ensures.0 t.root.name (shorter _ _ (begin_node t.root.name ∷ []) _ v.root))

pub returns-clause-reached : goal.returns-clause-reached
returns-clause-reached c = λ t v. (c.in_ok-begun.ensures.reach [] (reached_begin c.args.self.now)).0
