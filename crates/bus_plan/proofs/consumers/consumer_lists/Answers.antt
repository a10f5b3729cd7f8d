-- One device more stands behind the lists of its suppliers.
use Rattle.std.proofs.Common.{◌≡◌, ◌∙◌, ap, sym, subst, ℕ, ◌<◌, length, map, arith}
use Rattle.std.specs.Prelude.{All, AllPairs, IfOk, ◌≢◌}
use Rattle.std.proofs.lemmas.List.{get_or_read, length-map}
use Rattle.bus_plan.specs.Plan.{nothing, suppliers_of}
use Rattle.bus_plan.specs.Consumers.{consumers_of, devices}
use Rattle.bus_plan.specs.Private.DeviceLists.{IsAdded}
use Rattle.bus_plan.proofs.ConsumersLemmas.{gathered-more, gathered-all}
use Rattle.bus_plan.proofs.consumers.consumer_lists.Goals as goal

pub add_consumer-requires-clause-within : goal.add_consumer-requires-clause-within
add_consumer-requires-clause-within c =
    let plan = c.args.plan.now in
    let place : ℕ = c.loop-place.place in
    let is : c.suppliers.result.now ≡ suppliers_of plan place =
    c.suppliers.ensures ∙ ap (λ d. d.suppliers) (get_or_read plan place c.index-plan-place.result c.loop-place-test.true c.index-plan-place.is nothing) in
    let count : length plan ≡ length c.loop-place.lists.items = sym c.loop-place.invariant.count ∙ length-map c.loop-place.lists.items (λ list. list.items) in
    subst (All (λ s. s < length c.loop-place.lists.items)) (sym is)
    (subst (λ n. All (λ s. s < n) (suppliers_of plan place)) count (c.requires.within place))

pub add_consumer-requires-clause-apart : goal.add_consumer-requires-clause-apart
add_consumer-requires-clause-apart c =
    let plan = c.args.plan.now in
    let place : ℕ = c.loop-place.place in
    let is : c.suppliers.result.now ≡ suppliers_of plan place =
    c.suppliers.ensures ∙ ap (λ d. d.suppliers) (get_or_read plan place c.index-plan-place.result c.loop-place-test.true c.index-plan-place.is nothing) in
    subst (AllPairs (λ a b. a ≢ b)) (sym is) (c.requires.apart place)

pub loop-place-preserved : goal.loop-place-preserved
loop-place-preserved c =
    let plan = c.args.plan.now in
    let place : ℕ = c.loop-place.place in
    let is : c.suppliers.result.now ≡ suppliers_of plan place =
    c.suppliers.ensures ∙ ap (λ d. d.suppliers) (get_or_read plan place c.index-plan-place.result c.loop-place-test.true c.index-plan-place.is nothing) in
    let old = map (λ list. list.items) c.loop-place.lists.items in
    let new = map (λ list. list.items) c.add_consumer.new.lists.items in
    gathered-more plan place old new c.loop-place.invariant
    (subst (λ d. IsAdded old new d (suppliers_of plan place)) c.new.ensures
    (subst (IsAdded old new c.new.result) is c.in_ok-add_consumer.ensures))

pub returns : goal.returns
returns c =
    let plan = c.args.plan.now in
    let all : c.loop-place.place ≡ length plan = omega arith in
    let are : map (λ list. list.items) c.as_slice.result.now ≡ map (consumers_of plan) (devices plan) =
    ap (map (λ list. list.items)) c.as_slice.ensures.value
    ∙ gathered-all plan c.loop-place.place (map (λ list. list.items) c.loop-place.lists.items) all c.loop-place.invariant in
    subst (λ ls. IfOk c.of.result (λ lists. lists ≡ ls)) are c.of.ensures
