use Rattle.std.proofs.Common.{◌≡◌, ◌∷◌, [], ◌+◌, ◌<◌, Ok, map, drop, length, ℕ, List, sym, ap, ap₂, ◌∙◌, subst, add-one, true≢false, arith}
use Rattle.std.proofs.Math.Seq.{drop-cons}
use Rattle.dt_tree.specs.Steps.{then_do}
use Rattle.dt_source.specs.declared.tree.Item.{Item}
use Rattle.dt_source.specs.Tree.{item_view}
use Rattle.dt_source.specs.TreeMeaning.DtcEdits.{DtcTree, nothing}
use Rattle.dt_source.specs.TreeMeaning.DtcStatements.{dtc_item, dtc_items}
use Rattle.dt_build.specs.Edit.DtcFaultPlaces.{dtc_items_place}
use Rattle.dt_build.specs.Edit.Said.{pieces}
use Rattle.dt_build.specs.Edit.Private.DtcEdited.{placed_of}
use Rattle.dt_build.specs.Edit.Private.Ready.{IsReady}
use Rattle.dt_build.proofs.EditLemmas.DtcFaultPlaces.{items-place-goes-on, items-place-stops}
use Rattle.dt_build.proofs.EditLemmas.DtcItems.{item-counts, items-next, reached-next, reached-shallow}
use Rattle.dt_build.proofs.EditLemmas.Faults.{fault-same, fault-then}
use Rattle.dt_build.proofs.EditLemmas.Readiness.{ready-first, ready-next}
use Rattle.dt_build.proofs.edit.dtc_items.edit_dtc_items.Goals as goal

pub loop-item-init : goal.loop-item-init
loop-item-init c =
    let is : placed_of c.new-placed.result ≡ nothing = c.new-placed.ensures.tree pieces in
    record {
      sound = c.new-placed.ensures.sound;
      empty = λ e. c.new-placed.ensures.rows;
      reached = ([], ap (λ t. Ok t) (sym is));
      count = omega (arith, ap (λ (u : DtcTree). u.fragments) is);
      few = omega arith;
      ready = ready-first (map item_view c.args.items.now) c.args.fragments.now c.requires.fragments;
      rest = ap (dtc_items c.args.plugin (map item_view c.args.items.now)) is;
      place = ap (dtc_items_place c.args.plugin c.args.items.now) is;
    }

pub edit_dtc_item-edited-requires-clause-ready : goal.edit_dtc_item-edited-requires-clause-ready
edit_dtc_item-edited-requires-clause-ready c =
    let i = c.loop-item.invariant in
    record {
      sound = i.sound;
      shallow = reached-shallow c.args.plugin c.loop-item.placed i.sound i.reached;
      empty = i.empty;
    }

pub loop-item-preserved : goal.loop-item-preserved
loop-item-preserved c =
    let i = c.loop-item.invariant in
    let e = c.in_default.ensures in
    let at = c.loop-item.item-index in
    let plugin = c.args.plugin in
    let items = c.args.items.now in
    let f = c.args.fragments.now in
    let item = item_view c.item-item.result in
    let left = map item_view (drop (at + 1) items) in
    let more = c.extensions_in-extensions.ensures.count in
    let one = c.extensions_in-extensions.ensures.one in
    let live = c.loop-item.placed in
    let new = c.edit_dtc_item-edited.new.placed in
    let within : at < length items = omega arith in
    let next : drop at items ≡ c.item-item.result ∷ drop (at + 1) items = drop-cons items at c.item-item.result within ∙ ap₂ (λ a n. a ∷ drop n items) (sym c.item-item.is) (sym (add-one at)) in
    let ready = subst (λ (xs : List Item). IsReady f c.loop-item.extensions (map item_view xs)) next i.ready in
    record {
      sound = e.sound;
      empty = λ x. absurd (true≢false (sym e.begun ∙ x));
      reached = reached-next plugin item (placed_of live) (placed_of new) i.reached e.item;
      count = omega (arith, item-counts plugin item (placed_of live) (placed_of new) e.item, i.count, more);
      few = omega (arith, i.few, one);
      ready = subst (λ (n : ℕ). IsReady f (c.loop-item.extensions + n) left) (sym more) (ready-next f c.loop-item.extensions item left ready);
      rest = items-next plugin item left (placed_of live) (placed_of new) (dtc_items plugin (map item_view items) nothing)
          (sym (ap (λ xs. dtc_items plugin (map item_view xs) (placed_of live)) next) ∙ i.rest) e.item;
      place = items-place-goes-on plugin c.item-item.result (drop (at + 1) items) (placed_of live) (dtc_items_place plugin items nothing)
          (sym (ap (λ xs. dtc_items_place plugin xs (placed_of live)) next) ∙ i.place) (placed_of new) e.item;
    }

pub returns-in-Err-clause-items : goal.returns-in-Err-clause-items
returns-in-Err-clause-items c =
    let plugin = c.args.plugin in
    let at = c.loop-item.item-index in
    let items = c.args.items.now in
    let item = item_view c.item-item.result in
    let left = map item_view (drop (at + 1) items) in
    let t = placed_of c.loop-item.placed in
    let next : drop at items ≡ c.item-item.result ∷ drop (at + 1) items = drop-cons items at c.item-item.result c.loop-item-test.true ∙ ap₂ (λ a n. a ∷ drop n items) (sym c.item-item.is) (sym (add-one at)) in
    fault-same c.in-Err.error.kind (then_do (dtc_item plugin item t) (dtc_items plugin left)) (dtc_items plugin (map item_view items) nothing)
    (sym c.loop-item.invariant.rest ∙ ap (λ xs. dtc_items plugin (map item_view xs) t) next)
    (fault-then c.in-Err.error.kind (dtc_item plugin item t) (dtc_items plugin left) c.in-Err.ensures.item)

pub returns-in-Err-clause-at : goal.returns-in-Err-clause-at
returns-in-Err-clause-at c some =
    let plugin = c.args.plugin in
    let at = c.loop-item.item-index in
    let items = c.args.items.now in
    let t = placed_of c.loop-item.placed in
    let next : drop at items ≡ c.item-item.result ∷ drop (at + 1) items = drop-cons items at c.item-item.result c.loop-item-test.true ∙ ap₂ (λ a n. a ∷ drop n items) (sym c.item-item.is) (sym (add-one at)) in
    c.in-Err.ensures.at some
    ∙ items-place-stops plugin c.item-item.result (drop (at + 1) items) t (dtc_items_place plugin items nothing)
    (sym (ap (λ xs. dtc_items_place plugin xs t) next) ∙ c.loop-item.invariant.place) c.in-Err.error.kind some c.in-Err.ensures.item
