use Rattle.std.proofs.Common.{◌≤◌, ◌∙◌, sym, ap, subst}
use Rattle.std.specs.Prelude.{unwrap_or}
use Rattle.dt_blob.specs.Blob.{limit}
use Rattle.dt_blob.specs.Steps.Table.{placed}
use Rattle.dt_blob.proofs.Lasting.{placed-some, placed-none, placed-bound}
use Rattle.dt_blob.proofs.strings.Strings.offset.Goals as goal

pub returns-in-None-clause-value : goal.returns-in-None-clause-value
returns-in-None-clause-value c = placed-none c.self.inside.names c.args.name.now (sym c.position.ensures ∙ c.in-None.is) ∙ ap (λ ns. placed ns c.args.name.now) c.self.view_is

pub returns-in-Some-clause-value : goal.returns-in-Some-clause-value
returns-in-Some-clause-value c =
    let names = c.self.inside.names in
    c.unwrap_or.ensures ∙ ap (λ o. unwrap_or o 0) c.index.ensures ∙ placed-some names c.self.inside.places.items c.self.inside.size c.in-Some.at c.index.result.now c.args.name.now c.check.ensures c.self.invariant (sym c.position.ensures ∙ c.in-Some.is)
    ∙ ap (λ ns. placed ns c.args.name.now) c.self.view_is

pub returns-in-Some-clause-bound : goal.returns-in-Some-clause-bound
returns-in-Some-clause-bound c =
    let names = c.self.inside.names in
    let is = c.unwrap_or.ensures ∙ ap (λ o. unwrap_or o 0) c.index.ensures ∙ placed-some names c.self.inside.places.items c.self.inside.size c.in-Some.at c.index.result.now c.args.name.now c.check.ensures c.self.invariant (sym c.position.ensures ∙ c.in-Some.is) in
    subst (λ n. n ≤ limit) (sym is) (placed-bound names c.self.inside.places.items c.self.inside.size c.args.name.now c.self.invariant)
