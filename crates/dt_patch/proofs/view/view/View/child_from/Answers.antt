use Rattle.std.proofs.Common.{◌≡◌, refl, ap, sym, ◌∙◌, [], ◌∷◌, ◌++◌, true, false}
use Rattle.std.specs.Str.{bytes_eq}
use Rattle.dt_tree.specs.PathMap.{child_named}
use Rattle.dt_blob.specs.Token.{end_node, end, property_tokens, sibling_tokens}
use Rattle.dt_blob.specs.Steps.Reading.{token_of}
use Rattle.dt_patch.proofs.ViewLemmas.Descents.{met_nothing, met_nop_inside}
use Rattle.dt_patch.proofs.ViewLemmas.Names.{named_hit, named_miss, named_property, named_end}
use Rattle.dt_patch.proofs.ViewLemmas.Reaches.{toward_hit, toward_miss, toward_property}
use Rattle.dt_patch.proofs.view.view.View.child_from.Goals as goal

pub tokens-init : goal.tokens-init
tokens-init c = record {
  named = λ ps nodes last l a. (ps, nodes, a, refl);
  toward = λ ps nodes last before l a r. record { properties = ps; nodes = nodes; ahead = a; before = before; reached = r; is = refl };
}

pub returns-in_err-found-clause-found : goal.returns-in_err-found-clause-found
returns-in_err-found-clause-found c = λ ps nodes last l a. let i = c.tokens.invariant.named ps nodes last l a in absurd (met_nothing c.args.self.now c.tokens.at (i.0) (i.1) last (c.in_err-found.ensures.0) (i.2))

pub returns-then-eq-clause-found : goal.returns-then-eq-clause-found
returns-then-eq-clause-found c =
    let f = c.in_ok-found.found in
    let same : bytes_eq c.in-BeginNode.own.now c.args.name.now ≡ true = sym c.eq.ensures ∙ c.if-eq.true in
    λ ps nodes last l a. named_hit c.args.self.now c.tokens.at (record { at = f.at }) f.next (token_of f.token) c.in-BeginNode.own.now c.args.name.now last (child_named nodes c.args.name.now) c.in_ok-found.ensures (ap token_of c.in-BeginNode.is) same l (c.tokens.invariant.named ps nodes last l a)

pub returns-in_err-at-in-BeginNode-clause-found : goal.returns-in_err-at-in-BeginNode-clause-found
returns-in_err-at-in-BeginNode-clause-found c =
    let f = c.in_ok-found.found in
    let other : bytes_eq c.in-BeginNode.own.now c.args.name.now ≡ false = sym c.eq.ensures ∙ c.if-eq.false in
    λ ps nodes last l a.
    let m = named_miss c.args.self.now c.tokens.at f.at f.next (token_of f.token) c.in-BeginNode.own.now c.args.name.now last (child_named nodes c.args.name.now) c.in_ok-found.ensures (ap token_of c.in-BeginNode.is) other l (c.tokens.invariant.named ps nodes last l a) in
    absurd (c.in_err-at-in-BeginNode.ensures.inside m.ps m.children (sibling_tokens m.rest ++ last ∷ []) m.inside)

pub tokens-preserved-in-BeginNode : goal.tokens-preserved-in-BeginNode
tokens-preserved-in-BeginNode c =
    let f = c.in_ok-found.found in
    let other : bytes_eq c.in-BeginNode.own.now c.args.name.now ≡ false = sym c.eq.ensures ∙ c.if-eq.false in
    record {
      named = λ ps nodes last l a.
          let m = named_miss c.args.self.now c.tokens.at f.at f.next (token_of f.token) c.in-BeginNode.own.now c.args.name.now last (child_named nodes c.args.name.now) c.in_ok-found.ensures (ap token_of c.in-BeginNode.is) other l (c.tokens.invariant.named ps nodes last l a) in
          ([], m.rest, c.in_ok-at-in-BeginNode.ensures.inside m.ps m.children (sibling_tokens m.rest ++ last ∷ []) m.inside, m.is);
      toward = λ ps nodes last before l a r.
          let m = toward_miss c.args.self.now c.tokens.at f.at f.next (token_of f.token) c.in-BeginNode.own.now c.args.name.now last _ c.in_ok-found.ensures (ap token_of c.in-BeginNode.is) other l (c.tokens.invariant.toward ps nodes last before l a r) in
          record {
            properties = [];
            nodes = m.rest;
            ahead = c.in_ok-at-in-BeginNode.ensures.inside m.ps m.children (sibling_tokens m.rest ++ last ∷ []) m.inside;
            before = m.before ++ (property_tokens m.ps ++ (sibling_tokens m.children ++ end_node ∷ []));
            reached = c.in_ok-at-in-BeginNode.ensures.reached m.ps m.children (sibling_tokens m.rest ++ last ∷ []) m.before m.inside m.reached;
            is = m.is;
          };
    }

pub tokens-preserved : goal.tokens-preserved
tokens-preserved c =
    let f = c.in_ok-found.found in
    record {
      named = λ ps nodes last l a. named_property c.args.self.now c.tokens.at f.at f.next (token_of f.token) _ _ c.args.name.now last (child_named nodes c.args.name.now) c.in_ok-found.ensures (ap token_of c.in-Property.is) l (c.tokens.invariant.named ps nodes last l a);
      toward = λ ps nodes last before l a r. toward_property c.args.self.now c.tokens.at f.at f.next (token_of f.token) _ _ c.args.name.now last _ c.in_ok-found.ensures (ap token_of c.in-Property.is) l (c.tokens.invariant.toward ps nodes last before l a r);
    }

pub returns-in-EndNode-clause-found : goal.returns-in-EndNode-clause-found
returns-in-EndNode-clause-found c =
    let f = c.in_ok-found.found in
    λ ps nodes last l a. named_end c.args.self.now c.tokens.at f.at f.next (token_of f.token) end_node c.args.name.now last (child_named nodes c.args.name.now) c.in_ok-found.ensures (ap token_of c.in-EndNode.is) refl (c.tokens.invariant.named ps nodes last l a)

pub returns-in-End-clause-found : goal.returns-in-End-clause-found
returns-in-End-clause-found c =
    let f = c.in_ok-found.found in
    λ ps nodes last l a. named_end c.args.self.now c.tokens.at f.at f.next (token_of f.token) end c.args.name.now last (child_named nodes c.args.name.now) c.in_ok-found.ensures (ap token_of c.in-End.is) refl (c.tokens.invariant.named ps nodes last l a)

pub returns-in-Nop-clause-found : goal.returns-in-Nop-clause-found
returns-in-Nop-clause-found c =
    let f = c.in_ok-found.found in
    λ ps nodes last l a. let i = c.tokens.invariant.named ps nodes last l a in
    absurd (met_nop_inside c.args.self.now c.tokens.at f.at f.next (token_of f.token) (i.0) (i.1) last c.in_ok-found.ensures (ap token_of c.in-Nop.is) l (i.2))

pub returns-in_err-found-clause-reached : goal.returns-in_err-found-clause-reached
returns-in_err-found-clause-reached c = λ ps nodes last before l a r. let i = c.tokens.invariant.named ps nodes last l a in absurd (met_nothing c.args.self.now c.tokens.at (i.0) (i.1) last (c.in_err-found.ensures.0) (i.2))

pub returns-then-eq-clause-reached : goal.returns-then-eq-clause-reached
returns-then-eq-clause-reached c =
    let f = c.in_ok-found.found in
    let same : bytes_eq c.in-BeginNode.own.now c.args.name.now ≡ true = sym c.eq.ensures ∙ c.if-eq.true in
    λ ps nodes last before l a r. toward_hit c.args.self.now c.tokens.at f.at f.next (token_of f.token) c.in-BeginNode.own.now c.args.name.now last _ c.in_ok-found.ensures (ap token_of c.in-BeginNode.is) same l (c.tokens.invariant.toward ps nodes last before l a r)

pub returns-in_err-at-in-BeginNode-clause-reached : goal.returns-in_err-at-in-BeginNode-clause-reached
returns-in_err-at-in-BeginNode-clause-reached c =
    let f = c.in_ok-found.found in
    let other : bytes_eq c.in-BeginNode.own.now c.args.name.now ≡ false = sym c.eq.ensures ∙ c.if-eq.false in
    λ ps nodes last before l a r.
    let m = named_miss c.args.self.now c.tokens.at f.at f.next (token_of f.token) c.in-BeginNode.own.now c.args.name.now last (child_named nodes c.args.name.now) c.in_ok-found.ensures (ap token_of c.in-BeginNode.is) other l (c.tokens.invariant.named ps nodes last l a) in
    absurd (c.in_err-at-in-BeginNode.ensures.inside m.ps m.children (sibling_tokens m.rest ++ last ∷ []) m.inside)

pub returns-in-Nop-clause-reached : goal.returns-in-Nop-clause-reached
returns-in-Nop-clause-reached c =
    let f = c.in_ok-found.found in
    λ ps nodes last before l a r. let i = c.tokens.invariant.named ps nodes last l a in
    absurd (met_nop_inside c.args.self.now c.tokens.at f.at f.next (token_of f.token) (i.0) (i.1) last c.in_ok-found.ensures (ap token_of c.in-Nop.is) l (i.2))
