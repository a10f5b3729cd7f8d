use Rattle.std.proofs.Common.{refl, ap}
use Rattle.dt_blob.specs.Token.{end_node, nop, end}
use Rattle.dt_blob.specs.Steps.Reading.{token_of}
use Rattle.dt_patch.proofs.ViewLemmas.Holdings.{first_held, none_held, held_nothing}
use Rattle.dt_patch.proofs.view.view.View.property_from.Goals as goal

pub returns-in_err-found : goal.returns-in_err-found
returns-in_err-found c = λ ps t l a. absurd (held_nothing c.args.self.now c.args.from ps t (c.in_err-found.ensures.0) a)

pub returns-in-Property : goal.returns-in-Property
returns-in-Property c = let f = c.in_ok-found.found in λ ps t l a. first_held c.args.self.now c.args.from (token_of f.token) _ _ f.at f.next ps t c.in_ok-found.ensures (ap token_of c.in-Property.is) l a

pub returns-in-BeginNode : goal.returns-in-BeginNode
returns-in-BeginNode c = let f = c.in_ok-found.found in λ ps t l a. none_held c.args.self.now c.args.from (token_of f.token) _ f.at f.next ps t c.in_ok-found.ensures (ap token_of c.in-BeginNode.is) refl a

pub returns-in-EndNode : goal.returns-in-EndNode
returns-in-EndNode c = let f = c.in_ok-found.found in λ ps t l a. none_held c.args.self.now c.args.from (token_of f.token) end_node f.at f.next ps t c.in_ok-found.ensures (ap token_of c.in-EndNode.is) refl a

pub returns-in-Nop : goal.returns-in-Nop
returns-in-Nop c = let f = c.in_ok-found.found in λ ps t l a. none_held c.args.self.now c.args.from (token_of f.token) nop f.at f.next ps t c.in_ok-found.ensures (ap token_of c.in-Nop.is) refl a

pub returns-in-End : goal.returns-in-End
returns-in-End c = let f = c.in_ok-found.found in λ ps t l a. none_held c.args.self.now c.args.from (token_of f.token) end f.at f.next ps t c.in_ok-found.ensures (ap token_of c.in-End.is) refl a
