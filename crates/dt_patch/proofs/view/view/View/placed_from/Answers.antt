use Rattle.std.proofs.Common.{◌≡◌, refl, ap, sym, ◌∙◌, true, false}
use Rattle.std.specs.Str.{bytes_eq}
use Rattle.dt_tree.specs.PathMap.{value_of}
use Rattle.dt_blob.specs.Token.{end_node, nop, end}
use Rattle.dt_blob.specs.Steps.Reading.{token_of}
use Rattle.dt_patch.proofs.ViewLemmas.Holdings.{remaining_hit, remaining_miss, remaining_end, remaining_nothing}
use Rattle.std.proofs.lemmas.Slice.Eq.{bytes_eq-Decides}
use Rattle.dt_patch.proofs.ViewLemmas.Reaches.{placing_hit, placing_miss, is_placed}
use Rattle.dt_patch.proofs.view.view.View.placed_from.Goals as goal

pub properties-init : goal.properties-init
properties-init c = record {
  remaining = λ ps t l a. (ps, a, refl);
  placing = λ ps t before l a r. record { properties = ps; ahead = a; before = before; reached = r; is = refl };
}

pub returns-in_err-found-clause-found : goal.returns-in_err-found-clause-found
returns-in_err-found-clause-found c = λ ps t l a. absurd (remaining_nothing c.args.self.now c.properties.at c.args.name.now t (value_of ps c.args.name.now) (c.in_err-found.ensures.0) (c.properties.invariant.remaining ps t l a))

pub returns-then-eq-clause-found : goal.returns-then-eq-clause-found
returns-then-eq-clause-found c =
    let f = c.in_ok-found.found in
    let same : bytes_eq c.in-Property.own.now c.args.name.now ≡ true = sym c.eq.ensures ∙ c.if-eq.true in
    λ ps t l a. remaining_hit c.args.self.now c.properties.at (token_of f.token) c.in-Property.own.now c.in-Property.value.now c.args.name.now f.at f.next t (value_of ps c.args.name.now) c.in_ok-found.ensures (ap token_of c.in-Property.is) same l (c.properties.invariant.remaining ps t l a)

pub properties-preserved : goal.properties-preserved
properties-preserved c =
    let f = c.in_ok-found.found in
    let other : bytes_eq c.in-Property.own.now c.args.name.now ≡ false = sym c.eq.ensures ∙ c.if-eq.false in
    record {
      remaining = λ ps t l a. remaining_miss c.args.self.now c.properties.at (token_of f.token) c.in-Property.own.now c.in-Property.value.now c.args.name.now f.at f.next t (value_of ps c.args.name.now) c.in_ok-found.ensures (ap token_of c.in-Property.is) other l (c.properties.invariant.remaining ps t l a);
      placing = λ ps t before l a r. placing_miss c.args.self.now c.properties.at f.at f.next (token_of f.token) c.in-Property.own.now c.in-Property.value.now c.args.name.now t _ c.in_ok-found.ensures (ap token_of c.in-Property.is) other l (c.properties.invariant.placing ps t before l a r);
    }

pub returns-in-BeginNode-clause-found : goal.returns-in-BeginNode-clause-found
returns-in-BeginNode-clause-found c = let f = c.in_ok-found.found in λ ps t l a. remaining_end c.args.self.now c.properties.at (token_of f.token) _ c.args.name.now f.at f.next t (value_of ps c.args.name.now) c.in_ok-found.ensures (ap token_of c.in-BeginNode.is) refl (c.properties.invariant.remaining ps t l a)

pub returns-in-EndNode-clause-found : goal.returns-in-EndNode-clause-found
returns-in-EndNode-clause-found c = let f = c.in_ok-found.found in λ ps t l a. remaining_end c.args.self.now c.properties.at (token_of f.token) end_node c.args.name.now f.at f.next t (value_of ps c.args.name.now) c.in_ok-found.ensures (ap token_of c.in-EndNode.is) refl (c.properties.invariant.remaining ps t l a)

pub returns-in-Nop-clause-found : goal.returns-in-Nop-clause-found
returns-in-Nop-clause-found c = let f = c.in_ok-found.found in λ ps t l a. remaining_end c.args.self.now c.properties.at (token_of f.token) nop c.args.name.now f.at f.next t (value_of ps c.args.name.now) c.in_ok-found.ensures (ap token_of c.in-Nop.is) refl (c.properties.invariant.remaining ps t l a)

pub returns-in-End-clause-found : goal.returns-in-End-clause-found
returns-in-End-clause-found c = let f = c.in_ok-found.found in λ ps t l a. remaining_end c.args.self.now c.properties.at (token_of f.token) end c.args.name.now f.at f.next t (value_of ps c.args.name.now) c.in_ok-found.ensures (ap token_of c.in-End.is) refl (c.properties.invariant.remaining ps t l a)

pub returns-in_err-found-clause-reached : goal.returns-in_err-found-clause-reached
returns-in_err-found-clause-reached c = λ ps t before l a r. absurd (remaining_nothing c.args.self.now c.properties.at c.args.name.now t (value_of ps c.args.name.now) (c.in_err-found.ensures.0) (c.properties.invariant.remaining ps t l a))

pub returns-then-eq-clause-reached : goal.returns-then-eq-clause-reached
returns-then-eq-clause-reached c =
    let f = c.in_ok-found.found in
    let same : bytes_eq c.in-Property.own.now c.args.name.now ≡ true = sym c.eq.ensures ∙ c.if-eq.true in
    λ ps t before l a r. placing_hit c.args.self.now c.properties.at f.at f.next (token_of f.token) c.in-Property.own.now c.in-Property.value.now c.args.name.now t _ c.in_ok-found.ensures (ap token_of c.in-Property.is) same l (c.properties.invariant.placing ps t before l a r)

pub returns-then-eq-clause-spelled : goal.returns-then-eq-clause-spelled
returns-then-eq-clause-spelled c =
    let f = c.in_ok-found.found in
    let same : bytes_eq c.in-Property.own.now c.args.name.now ≡ true = sym c.eq.ensures ∙ c.if-eq.true in
    is_placed c.args.self.now c.properties.at f.at f.next (token_of f.token) c.in-Property.own.now c.in-Property.value.now c.args.name.now c.in_ok-found.ensures (ap token_of c.in-Property.is) ((bytes_eq-Decides c.in-Property.own.now c.args.name.now).0 same)
