use Rattle.std.proofs.Common.{◌≡◌, ◌∷◌, ◌+◌, ◌<◌, map, drop, length, ℕ, List, sym, ap, ap₂, ◌∙◌, subst, add-one, arith}
use Rattle.std.proofs.Math.Seq.{drop-cons}
use Rattle.std.proofs.lemmas.List.{at_drop_all}
use Rattle.dt_tree.specs.Steps.{then_do}
use Rattle.dt_source.specs.declared.tree.Item.{Item}
use Rattle.dt_source.specs.Tree.{item_view}
use Rattle.dt_source.specs.TreeMeaning.Edits.{counted}
use Rattle.dt_source.specs.TreeMeaning.Statements.{after_item, after_items}
use Rattle.dt_build.specs.Edit.FaultPlaces.{items_place}
use Rattle.dt_build.specs.Edit.Private.Ready.{IsReady}
use Rattle.dt_build.specs.Edit.Said.{tree_of}
use Rattle.dt_build.proofs.EditLemmas.FaultPlaces.{items-place-goes-on, items-place-stops}
use Rattle.dt_build.proofs.EditLemmas.Faults.{fault-same, fault-then}
use Rattle.dt_build.proofs.EditLemmas.ItemSteps.{items-go-on}
use Rattle.dt_build.proofs.EditLemmas.Readiness.{ready-next}
use Rattle.dt_build.proofs.edit.items.edit_items.Goals as goal

pub loop-item-preserved : goal.loop-item-preserved
loop-item-preserved c =
    let i = c.loop-item.invariant in
    let e = c.in_default.ensures in
    let at = c.loop-item.item-index in
    let items = c.args.items.now in
    let f = c.args.fragments.now in
    let item = item_view c.item-item.result in
    let left = map item_view (drop (at + 1) items) in
    let more = c.extensions_in-extensions.ensures.count in
    let within : at < length items = omega arith in
    let next : drop at items ≡ c.item-item.result ∷ drop (at + 1) items = drop-cons items at c.item-item.result within ∙ ap₂ (λ a n. a ∷ drop n items) (sym c.item-item.is) (sym (add-one at)) in
    let ready = subst (λ (xs : List Item). IsReady f c.loop-item.extensions (map item_view xs)) next i.ready in
    record {
      sound = e.sound;
      stamped = e.stamped;
      exact = e.exact;
      count = omega (arith, e.counted, more);
      ready = subst (λ (n : ℕ). IsReady f (c.loop-item.extensions + n) left) (sym more) (ready-next f c.loop-item.extensions item left ready);
      rest = items-go-on c.args.plugin item left (counted c.loop-item.made.count (tree_of c.loop-item.live)) (counted c.edit_item.new.made.count (tree_of c.edit_item.new.live))
          (after_items c.args.plugin (map item_view items) (tree_of c.args.live.now))
          (sym (ap (λ xs. after_items c.args.plugin (map item_view xs) (counted c.loop-item.made.count (tree_of c.loop-item.live))) next) ∙ i.rest) e.item;
      place = items-place-goes-on c.args.plugin c.item-item.result (drop (at + 1) items) (counted c.loop-item.made.count (tree_of c.loop-item.live)) (items_place c.args.plugin items (tree_of c.args.live.now))
          (sym (ap (λ xs. items_place c.args.plugin xs (counted c.loop-item.made.count (tree_of c.loop-item.live))) next) ∙ i.place)
          (counted c.edit_item.new.made.count (tree_of c.edit_item.new.live)) e.item;
    }

pub edit_item-requires-clause-ready : goal.edit_item-requires-clause-ready
edit_item-requires-clause-ready c =
    let at = c.loop-item.item-index in
    let items = c.args.items.now in
    let next : drop at items ≡ c.item-item.result ∷ drop (at + 1) items = drop-cons items at c.item-item.result c.loop-item-test.true ∙ ap₂ (λ a n. a ∷ drop n items) (sym c.item-item.is) (sym (add-one at)) in
    (map item_view (drop (at + 1) items), subst (λ (xs : List Item). IsReady c.args.fragments.now c.loop-item.extensions (map item_view xs)) next c.loop-item.invariant.ready)

pub returns-clause-items : goal.returns-clause-items
returns-clause-items c =
    let made = c.loop-item.made.count in (
      made,
      sym c.loop-item.invariant.rest
          ∙ at_drop_all (λ (xs : List Item). after_items c.args.plugin (map item_view xs) (counted made (tree_of c.loop-item.live))) c.args.items.now c.loop-item.item-index c.loop-item-test.false,
    )

pub returns-in-Err-clause-items : goal.returns-in-Err-clause-items
returns-in-Err-clause-items c =
    let plugin = c.args.plugin in
    let at = c.loop-item.item-index in
    let items = c.args.items.now in
    let item = item_view c.item-item.result in
    let left = map item_view (drop (at + 1) items) in
    let state = counted c.loop-item.made.count (tree_of c.loop-item.live) in
    let next : drop at items ≡ c.item-item.result ∷ drop (at + 1) items = drop-cons items at c.item-item.result c.loop-item-test.true ∙ ap₂ (λ a n. a ∷ drop n items) (sym c.item-item.is) (sym (add-one at)) in
    fault-same c.in-Err.error.kind (then_do (after_item plugin item state) (after_items plugin left)) (after_items plugin (map item_view items) (tree_of c.args.live.now))
    (sym c.loop-item.invariant.rest ∙ ap (λ xs. after_items plugin (map item_view xs) state) next)
    (fault-then c.in-Err.error.kind (after_item plugin item state) (after_items plugin left) c.in-Err.ensures.item)

pub returns-in-Err-clause-at : goal.returns-in-Err-clause-at
returns-in-Err-clause-at c some =
    let plugin = c.args.plugin in
    let at = c.loop-item.item-index in
    let items = c.args.items.now in
    let state = counted c.loop-item.made.count (tree_of c.loop-item.live) in
    let next : drop at items ≡ c.item-item.result ∷ drop (at + 1) items = drop-cons items at c.item-item.result c.loop-item-test.true ∙ ap₂ (λ a n. a ∷ drop n items) (sym c.item-item.is) (sym (add-one at)) in
    c.in-Err.ensures.at some
    ∙ items-place-stops plugin c.item-item.result (drop (at + 1) items) state (items_place plugin items (tree_of c.args.live.now))
    (sym (ap (λ xs. items_place plugin xs state) next) ∙ c.loop-item.invariant.place) c.in-Err.error.kind some c.in-Err.ensures.item
