use Rattle.std.proofs.Common.{[], ◌∷◌, ◌++◌}
use Rattle.dt_patch.specs.View.Reaching.{before_property}
use Rattle.dt_blob.specs.Token.{begin_node}
use Rattle.dt_patch.proofs.ViewLemmas.Beginnings.{shorter}
use Rattle.dt_patch.proofs.ViewLemmas.Holdings.{listed}
use Rattle.dt_patch.proofs.ViewLemmas.Reaches.{placed_behind}
use Rattle.dt_patch.proofs.view.view.View.placed.Goals as goal

pub returns-in_err-begun-clause-stands : goal.returns-in_err-begun-clause-stands
returns-in_err-begun-clause-stands c = λ d a. absurd (c.in_err-begun.ensures.0 d.name (shorter _ _ (begin_node d.name ∷ []) _ a))

pub returns-clause-stands : goal.returns-clause-stands
returns-clause-stands c = λ d a. let l = listed c.args.self.now c.in_ok-begun.begun.next d.properties d.children [] ((c.in_ok-begun.ensures.ahead d.name _ a).2) in c.placed_from.ensures.found d.properties l.token l.ends l.stands

pub returns-clause-refused : goal.returns-clause-refused
returns-clause-refused c = λ n. absurd (n c.in_ok-begun.begun.name.now c.in_ok-begun.ensures.stands)

pub returns-in_err-begun-clause-reached : goal.returns-in_err-begun-clause-reached
returns-in_err-begun-clause-reached c = λ d before a r. absurd (c.in_err-begun.ensures.0 d.name (shorter _ _ (begin_node d.name ∷ []) _ a))

pub returns-clause-reached : goal.returns-clause-reached
returns-clause-reached c = λ d before a r.
    let p = c.in_ok-begun.ensures.ahead d.name _ a in
    let l = listed c.args.self.now c.in_ok-begun.begun.next d.properties d.children [] (p.2) in
    placed_behind c.args.self.now c.placed_from.result before (before_property d.properties c.args.name.now) d.name c.in_ok-begun.begun.name.now (p.0)
    (c.placed_from.ensures.reached d.properties l.token (before ++ begin_node c.in_ok-begun.begun.name.now ∷ []) l.ends l.stands (c.in_ok-begun.ensures.reach before r).1)
