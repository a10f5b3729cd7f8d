-- The field goes up to the first blank, and the blanks behind it are dropped.
use Rattle.std.proofs.Common.{◌∙◌, sym, ℕ, ◌<◌, List, length}
use Rattle.bstr.proofs.lemmas.MatchListLemmas.{goes-ref}
use Rattle.bus_plan.proofs.FieldsLemmas.{some-of, fields-cut, filled-from}
use Rattle.bus_plan.proofs.fields.FieldsIterator.next.Goals as goal

pub returns-clause-steps : goal.returns-clause-steps
returns-clause-steps c =
    let rest : List ℕ = c.self.inside.rest.now in
    let some : 0 < length rest = some-of (length rest) (sym c.is_empty.ensures ∙ c.if-is_empty.false) in
    sym c.self.view_is
    ∙ fields-cut rest c.split_at.result.0.now c.split_at.result.1.now c.first_place.result c.first_place-2.result c.self.invariant some
    c.first_place.ensures.within c.first_place.ensures.before c.first_place.ensures.found c.split_at.ensures.front c.split_at.ensures.back
    c.first_place-2.ensures.within c.first_place-2.ensures.before

pub returns-clause-goes : goal.returns-clause-goes
returns-clause-goes c =
    let rest : List ℕ = c.self.inside.rest.now in
    let some : 0 < length rest = some-of (length rest) (sym c.is_empty.ensures ∙ c.if-is_empty.false) in
    goes-ref _ (λ _. tt) _ _ _
    (sym c.self.view_is
    ∙ fields-cut rest c.split_at.result.0.now c.split_at.result.1.now c.first_place.result c.first_place-2.result c.self.invariant some
    c.first_place.ensures.within c.first_place.ensures.before c.first_place.ensures.found c.split_at.ensures.front c.split_at.ensures.back
    c.first_place-2.ensures.within c.first_place-2.ensures.before)

pub invariant_of-self : goal.invariant_of-self
invariant_of-self c = filled-from c.split_at.result.1.now c.first_place-2.result c.first_place-2.ensures.found
