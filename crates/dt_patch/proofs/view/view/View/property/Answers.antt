use Rattle.dt_patch.proofs.ViewLemmas.Holdings.{first_of}
use Rattle.dt_patch.proofs.view.view.View.property.Goals as goal

pub returns-in_err-held-clause-stands : goal.returns-in_err-held-clause-stands
returns-in_err-held-clause-stands c = λ p ps s. absurd (c.in_err-held.ensures.0 p.name p.value (first_of c.args.self.now c.args.property.at p ps s))

pub returns-clause-stands : goal.returns-clause-stands
returns-clause-stands c = λ p ps s. let q = c.in_ok-held.ensures.ahead p.name p.value _ (s.2) in (q.0, q.1)

pub returns-clause-refused : goal.returns-clause-refused
returns-clause-refused c = λ n. absurd (n c.in_ok-held.held.name.now c.in_ok-held.held.value.now c.in_ok-held.ensures.stands)
