use Rattle.std.proofs.Common.{refl, ap}
use Rattle.std.proofs.lemmas.Result.{err_from_is_err_and}
use Rattle.dt_blob.specs.Token.{end_node, nop, end}
use Rattle.dt_blob.specs.Steps.Reading.{token_of}
use Rattle.dt_patch.proofs.ViewLemmas.Holdings.{holds_property, no_property, nothing_held}
use Rattle.dt_patch.proofs.view.view.View.held.Goals as goal

pub returns-in_err-found : goal.returns-in_err-found
returns-in_err-found c =
    let p = err_from_is_err_and c.from_residual.result c.from_residual.ensures.1 in
    rw (p.1, p.2) (nothing_held c.args.self.now c.args.from (c.in_err-found.ensures.0), c.in_err-found.ensures.1)

pub returns-in-Property : goal.returns-in-Property
returns-in-Property c = let f = c.in_ok-found.found in holds_property c.args.self.now c.args.from (token_of f.token) c.in-Property.name.now c.in-Property.value.now f.at f.next c.in_ok-found.ensures (ap token_of c.in-Property.is)

pub returns-in-BeginNode : goal.returns-in-BeginNode
returns-in-BeginNode c = let f = c.in_ok-found.found in (no_property c.args.self.now c.args.from (token_of f.token) _ f.at f.next c.in_ok-found.ensures (ap token_of c.in-BeginNode.is) refl, refl)

pub returns-in-EndNode : goal.returns-in-EndNode
returns-in-EndNode c = let f = c.in_ok-found.found in (no_property c.args.self.now c.args.from (token_of f.token) end_node f.at f.next c.in_ok-found.ensures (ap token_of c.in-EndNode.is) refl, refl)

pub returns-in-Nop : goal.returns-in-Nop
returns-in-Nop c = let f = c.in_ok-found.found in (no_property c.args.self.now c.args.from (token_of f.token) nop f.at f.next c.in_ok-found.ensures (ap token_of c.in-Nop.is) refl, refl)

pub returns-in-End : goal.returns-in-End
returns-in-End c = let f = c.in_ok-found.found in (no_property c.args.self.now c.args.from (token_of f.token) end f.at f.next c.in_ok-found.ensures (ap token_of c.in-End.is) refl, refl)
