use Rattle.std.proofs.Common.{refl, ap}
use Rattle.dt_blob.specs.Token.{end_node, nop, end}
use Rattle.dt_blob.specs.Steps.Reading.{token_of}
use Rattle.dt_patch.proofs.ViewLemmas.Ends.{ending_last, ending_nothing, ending_property}
use Rattle.dt_patch.proofs.view.view.View.properties_end_from.Goals as goal

pub properties-init : goal.properties-init
properties-init c = λ ps t before l a r. record { properties = ps; ahead = a; before = before; reached = r; is = refl }

pub returns-in_err-found-clause-reached : goal.returns-in_err-found-clause-reached
returns-in_err-found-clause-reached c = λ ps t before l a r. absurd (ending_nothing c.args.self.now c.properties.at t _ (c.in_err-found.ensures.0) (c.properties.invariant ps t before l a r))

pub properties-preserved : goal.properties-preserved
properties-preserved c =
    let f = c.in_ok-found.found in
    λ ps t before l a r. ending_property c.args.self.now c.properties.at f.at f.next (token_of f.token) _ _ t _ c.in_ok-found.ensures (ap token_of c.in-Property.is) l (c.properties.invariant ps t before l a r)

pub returns-in-BeginNode-clause-reached : goal.returns-in-BeginNode-clause-reached
returns-in-BeginNode-clause-reached c = let f = c.in_ok-found.found in λ ps t before l a r. ending_last c.args.self.now c.properties.at f.at f.next (token_of f.token) _ t _ c.in_ok-found.ensures (ap token_of c.in-BeginNode.is) refl (c.properties.invariant ps t before l a r)

pub returns-in-EndNode-clause-reached : goal.returns-in-EndNode-clause-reached
returns-in-EndNode-clause-reached c = let f = c.in_ok-found.found in λ ps t before l a r. ending_last c.args.self.now c.properties.at f.at f.next (token_of f.token) end_node t _ c.in_ok-found.ensures (ap token_of c.in-EndNode.is) refl (c.properties.invariant ps t before l a r)

pub returns-in-Nop-clause-reached : goal.returns-in-Nop-clause-reached
returns-in-Nop-clause-reached c = let f = c.in_ok-found.found in λ ps t before l a r. ending_last c.args.self.now c.properties.at f.at f.next (token_of f.token) nop t _ c.in_ok-found.ensures (ap token_of c.in-Nop.is) refl (c.properties.invariant ps t before l a r)

pub returns-in-End-clause-reached : goal.returns-in-End-clause-reached
returns-in-End-clause-reached c = let f = c.in_ok-found.found in λ ps t before l a r. ending_last c.args.self.now c.properties.at f.at f.next (token_of f.token) end t _ c.in_ok-found.ensures (ap token_of c.in-End.is) refl (c.properties.invariant ps t before l a r)
