use Rattle.std.proofs.Common.{◌∙◌, ℕ, Option, sym, subst}
use Rattle.dt_live.proofs.BuilderLemmas.MakingWalk.{ok-more}
use Rattle.dt_live.specs.Making.Private.Walks.{AreOfNode}
use Rattle.dt_live.proofs.MakingLemmas.Steps.{of-phandle}
use Rattle.dt_live.proofs.making.making.node_properties.Goals as goal

pub returns-in-None-clause-properties : goal.returns-in-None-clause-properties
returns-in-None-clause-properties g c =
    let old = g.M.Values.bytes_of c.args.values.now in
    let new = g.M.Values.bytes_of c.run_properties.new.values in
    ok-more _ _ (λ list of. subst (λ (o : Option ℕ). AreOfNode old new c.args.run.now o list) (sym c.in-None.is ∙ c.new_phandle.ensures) of) c.run_properties.result c.run_properties.ensures.properties

pub returns-in_ok-push-in-Some-clause-properties : goal.returns-in_ok-push-in-Some-clause-properties
returns-in_ok-push-in-Some-clause-properties g c =
    let old = g.M.Values.bytes_of c.args.values.now in
    let new = g.M.Values.bytes_of c.run_properties-in-Some.new.values in
    subst (λ (o : Option ℕ). AreOfNode old new c.args.run.now o c.push.new.self) (sym c.in-Some.is ∙ c.new_phandle.ensures)
    (of-phandle old new c.args.run.now c.in_ok-properties-in-Some.properties c.push.new.self c.in_ok-properties-in-Some.ensures.properties c.in-Some.phandle
    c.in_ok-phandle_property-in-Some.field-0 c.in_ok-push-in-Some.ensures.items c.in_ok-phandle_property-in-Some.ensures.name c.in_ok-phandle_property-in-Some.ensures.value)
