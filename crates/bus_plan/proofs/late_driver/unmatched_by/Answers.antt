-- The lists that the strings have are walked over one by one.
use Rattle.std.proofs.Common.{◌∙◌, ap, sym, ℕ, ◌&&◌, ◌||◌, [], get_or, take}
use Rattle.std.proofs.lemmas.List.{take_all}
use Rattle.std.proofs.lemmas.List.Folds.{list_any_more}
use Rattle.bus_plan.specs.Plan.{planned}
use Rattle.bus_plan.specs.Private.Places.{is_in}
use Rattle.bus_plan.specs.Private.Waiting.{is_unmatched, stands_at}
use Rattle.bus_plan.proofs.BoolLemmas.{or-and}
use Rattle.bus_plan.proofs.late_driver.unmatched_by.Goals as goal

pub loop-place-preserved : goal.loop-place-preserved
loop-place-preserved c d =
    let w = c.args.waiting.now in
    let free = is_unmatched (planned c.args.devices.now d) in
    let places = c.as_slice-place-items.result.now in
    let i : ℕ = c.loop-place.place-index in
    let before = stands_at w (take i places) d in
    c.in_ok-add_list.ensures d
    ∙ ap (λ t. t || (is_in d c.list.result.now && free)) (c.loop-place.invariant d)
    ∙ or-and before (is_in d c.list.result.now) free
    ∙ ap (λ t. t && free) (ap (λ l. before || is_in d l) c.list.ensures
    ∙ sym (list_any_more (λ place. is_in d (get_or w.lists place [])) places i 0 c.loop-place-test.true))

pub returns : goal.returns
returns c d =
    c.loop-place.invariant d
    ∙ ap (λ t. t && is_unmatched (planned c.args.devices.now d))
    (ap (λ places. stands_at c.args.waiting.now places d)
    (take_all c.loop-place.place-index c.as_slice-place-items.result.now c.loop-place-test.false ∙ c.as_slice-place-items.ensures.places)
    ∙ c.in_ok-lists.ensures d)
