use Rattle.std.proofs.Common.{◌≡◌, refl, ap, sym, ◌∙◌, [], ◌∷◌, ◌++◌, true, false}
use Rattle.dt_blob.specs.Token.{end_node, end, sibling_tokens}
use Rattle.dt_blob.specs.Steps.Reading.{token_of}
use Rattle.dt_patch.specs.View.Alike.{child_like, is_like}
use Rattle.dt_patch.proofs.ViewLemmas.Descents.{met_nothing, met_nop_inside}
use Rattle.dt_patch.proofs.ViewLemmas.Alikes.{alike_hit, alike_miss, alike_property, alike_end}
use Rattle.dt_patch.proofs.view.view.View.child_like_from.Goals as goal

pub tokens-init : goal.tokens-init
tokens-init c = λ ps nodes last l a. (ps, nodes, a, refl)

pub returns-in_err-found : goal.returns-in_err-found
returns-in_err-found c = λ ps nodes last l a. let i = c.tokens.invariant ps nodes last l a in absurd (met_nothing c.args.self.now c.tokens.at (i.0) (i.1) last (c.in_err-found.ensures.0) (i.2))

pub returns-then-is_like : goal.returns-then-is_like
returns-then-is_like c =
    let f = c.in_ok-found.found in
    let same : is_like c.in-BeginNode.own.now c.args.name.now ≡ true = sym c.is_like.ensures ∙ c.if-is_like.true in
    λ ps nodes last l a. alike_hit c.args.self.now c.tokens.at (record { at = f.at }) f.next (token_of f.token) c.in-BeginNode.own.now c.args.name.now last (child_like nodes c.args.name.now) c.in_ok-found.ensures (ap token_of c.in-BeginNode.is) same l (c.tokens.invariant ps nodes last l a)

pub returns-in_err-at-in-BeginNode : goal.returns-in_err-at-in-BeginNode
returns-in_err-at-in-BeginNode c =
    let f = c.in_ok-found.found in
    let other : is_like c.in-BeginNode.own.now c.args.name.now ≡ false = sym c.is_like.ensures ∙ c.if-is_like.false in
    λ ps nodes last l a.
    let m = alike_miss c.args.self.now c.tokens.at f.at f.next (token_of f.token) c.in-BeginNode.own.now c.args.name.now last (child_like nodes c.args.name.now) c.in_ok-found.ensures (ap token_of c.in-BeginNode.is) other l (c.tokens.invariant ps nodes last l a) in
    absurd (c.in_err-at-in-BeginNode.ensures.inside m.ps m.children (sibling_tokens m.rest ++ last ∷ []) m.inside)

pub tokens-preserved-in-BeginNode : goal.tokens-preserved-in-BeginNode
tokens-preserved-in-BeginNode c =
    let f = c.in_ok-found.found in
    let other : is_like c.in-BeginNode.own.now c.args.name.now ≡ false = sym c.is_like.ensures ∙ c.if-is_like.false in
    λ ps nodes last l a.
    let m = alike_miss c.args.self.now c.tokens.at f.at f.next (token_of f.token) c.in-BeginNode.own.now c.args.name.now last (child_like nodes c.args.name.now) c.in_ok-found.ensures (ap token_of c.in-BeginNode.is) other l (c.tokens.invariant ps nodes last l a) in
    ([], m.rest, c.in_ok-at-in-BeginNode.ensures.inside m.ps m.children (sibling_tokens m.rest ++ last ∷ []) m.inside, m.is)

pub tokens-preserved : goal.tokens-preserved
tokens-preserved c =
    let f = c.in_ok-found.found in
    λ ps nodes last l a. alike_property c.args.self.now c.tokens.at f.at f.next (token_of f.token) _ _ c.args.name.now last (child_like nodes c.args.name.now) c.in_ok-found.ensures (ap token_of c.in-Property.is) l (c.tokens.invariant ps nodes last l a)

pub returns-in-EndNode : goal.returns-in-EndNode
returns-in-EndNode c =
    let f = c.in_ok-found.found in
    λ ps nodes last l a. alike_end c.args.self.now c.tokens.at f.at f.next (token_of f.token) end_node c.args.name.now last (child_like nodes c.args.name.now) c.in_ok-found.ensures (ap token_of c.in-EndNode.is) refl (c.tokens.invariant ps nodes last l a)

pub returns-in-End : goal.returns-in-End
returns-in-End c =
    let f = c.in_ok-found.found in
    λ ps nodes last l a. alike_end c.args.self.now c.tokens.at f.at f.next (token_of f.token) end c.args.name.now last (child_like nodes c.args.name.now) c.in_ok-found.ensures (ap token_of c.in-End.is) refl (c.tokens.invariant ps nodes last l a)

pub returns-in-Nop : goal.returns-in-Nop
returns-in-Nop c =
    let f = c.in_ok-found.found in
    λ ps nodes last l a. let i = c.tokens.invariant ps nodes last l a in
    absurd (met_nop_inside c.args.self.now c.tokens.at f.at f.next (token_of f.token) (i.0) (i.1) last c.in_ok-found.ensures (ap token_of c.in-Nop.is) l (i.2))
