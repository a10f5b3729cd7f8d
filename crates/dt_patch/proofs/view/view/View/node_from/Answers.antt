use Rattle.std.proofs.Common.{refl, ap}
use Rattle.dt_blob.specs.Token.{end_node, end}
use Rattle.dt_blob.specs.Steps.Reading.{token_of}
use Rattle.dt_patch.proofs.ViewLemmas.Descents.{met_node, met_end, met_property, met_nothing, met_nop_inside}
use Rattle.dt_patch.proofs.view.view.View.node_from.Goals as goal

pub returns-in_err-found : goal.returns-in_err-found
returns-in_err-found c = λ ps nodes last l a. let i = c.tokens.invariant ps nodes last a l in absurd (met_nothing c.args.self.now c.tokens.at (i.0) nodes last (c.in_err-found.ensures.0) (i.1))

pub returns-in-BeginNode : goal.returns-in-BeginNode
returns-in-BeginNode c =
    let f = c.in_ok-found.found in
    λ ps nodes last l a. let i = c.tokens.invariant ps nodes last a l in
    met_node c.args.self.now c.tokens.at f.at f.next (token_of f.token) _ (i.0) nodes last c.in_ok-found.ensures (ap token_of c.in-BeginNode.is) l (i.1)

pub tokens-preserved : goal.tokens-preserved
tokens-preserved c =
    let f = c.in_ok-found.found in
    λ ps nodes last a l. let i = c.tokens.invariant ps nodes last a l in
    met_property c.args.self.now c.tokens.at f.at f.next (token_of f.token) _ _ (i.0) nodes last c.in_ok-found.ensures (ap token_of c.in-Property.is) l (i.1)

pub returns-in-EndNode : goal.returns-in-EndNode
returns-in-EndNode c =
    let f = c.in_ok-found.found in
    λ ps nodes last l a. let i = c.tokens.invariant ps nodes last a l in
    met_end c.args.self.now c.tokens.at f.at f.next (token_of f.token) end_node (i.0) nodes last c.in_ok-found.ensures (ap token_of c.in-EndNode.is) refl (i.1)

pub returns-in-End : goal.returns-in-End
returns-in-End c =
    let f = c.in_ok-found.found in
    λ ps nodes last l a. let i = c.tokens.invariant ps nodes last a l in
    met_end c.args.self.now c.tokens.at f.at f.next (token_of f.token) end (i.0) nodes last c.in_ok-found.ensures (ap token_of c.in-End.is) refl (i.1)

pub returns-in-Nop : goal.returns-in-Nop
returns-in-Nop c =
    let f = c.in_ok-found.found in
    λ ps nodes last l a. let i = c.tokens.invariant ps nodes last a l in
    absurd (met_nop_inside c.args.self.now c.tokens.at f.at f.next (token_of f.token) (i.0) nodes last c.in_ok-found.ensures (ap token_of c.in-Nop.is) l (i.1))
