use Rattle.std.proofs.Common.{◌≡◌, List, Result, sym, ap, ◌∙◌, subst, arith}
use Rattle.dt_source.specs.Tree.{item_view, labels_view, target_view, views}
use Rattle.dt_source.specs.TreeMeaning.Edits.{State, counted}
use Rattle.dt_source.specs.TreeMeaning.Statements.{Fault, after_fragment, after_item}
use Rattle.dt_source.specs.TreeMeaning.Syntax.{Piece}
use Rattle.dt_build.specs.Edit.EditFault.{Gives}
use Rattle.dt_build.specs.Edit.FaultPlaces.{extension_place, fragment_place, item_place}
use Rattle.dt_build.specs.Edit.Said.{tree_of}
use Rattle.dt_build.proofs.EditLemmas.FaultPlaces.{place-of-extension, place-of-fragment, placed-same}
use Rattle.dt_build.proofs.EditLemmas.FragmentSteps.{item-adds}
use Rattle.dt_build.proofs.EditLemmas.Readiness.{extension-next, value_of}
use Rattle.dt_build.proofs.edit.items.edit_item.Goals as goal

pub index-requires : goal.index-requires
index-requires c =
    let next = extension-next c.args.fragments.now c.args.extension c.args.made.now.count c.requires.ready.0 c.args.item.now c.in-Extend.labels c.in-Extend.target c.in-Extend.body
    c.in-Extend.is c.requires.ready.1 c.requires.counted in
    omega (arith, next.within, c.args.fragments.now.names.ok)

pub add_fragment-requires-clause-name : goal.add_fragment-requires-clause-name
add_fragment-requires-clause-name c =
    let next = extension-next c.args.fragments.now c.args.extension c.args.made.now.count c.requires.ready.0 c.args.item.now c.in-Extend.labels c.in-Extend.target c.in-Extend.body
    c.in-Extend.is c.requires.ready.1 c.requires.counted in
    next.name c.as_slice-name.result.now c.index.result.now (c.as_slice-name.ensures.value ∙ ap (λ v. v.items) c.index.ensures)

pub add_fragment-requires-clause-value : goal.add_fragment-requires-clause-value
add_fragment-requires-clause-value c =
    let next = extension-next c.args.fragments.now c.args.extension c.args.made.now.count c.requires.ready.0 c.args.item.now c.in-Extend.labels c.in-Extend.target c.in-Extend.body
    c.in-Extend.is c.requires.ready.1 c.requires.counted in
    ap value_of c.index-value.ensures ∙ next.value c.index-value.result.now

pub returns-then-makes_fragment-clause-item : goal.returns-then-makes_fragment-clause-item
returns-then-makes_fragment-clause-item c =
    let plugin = c.args.plugin in
    let made = c.args.made.now.count in
    let s = tree_of c.args.live.now in
    let t = target_view c.in-Extend.target in
    let name = c.as_slice-name.result.now in
    let next = extension-next c.args.fragments.now c.args.extension c.args.made.now.count c.requires.ready.0 c.args.item.now c.in-Extend.labels c.in-Extend.target c.in-Extend.body
    c.in-Extend.is c.requires.ready.1 c.requires.counted in
    let named = next.name name c.index.result.now (c.as_slice-name.ensures.value ∙ ap (λ v. v.items) c.index.ensures) in
    let same = ap (λ i. after_item plugin (item_view i) (counted made s)) c.in-Extend.is
    ∙ item-adds plugin (labels_view c.in-Extend.labels) t (views c.in-Extend.body.items) made s name (sym c.makes_fragment.ensures ∙ c.if-makes_fragment.true) named
    ∙ ap (λ ss. after_fragment t (views ss) name (counted made s)) (sym c.as_slice-then-makes_fragment.ensures.value) in
    subst (λ (r : Result (State (List Piece)) Fault). Gives r (λ _. counted c.add_fragment.new.made.count (tree_of c.add_fragment.new.live)) c.add_fragment.result) (sym {A = Result (State (List Piece)) Fault} same) c.add_fragment.ensures.item

pub returns-then-makes_fragment-clause-at : goal.returns-then-makes_fragment-clause-at
returns-then-makes_fragment-clause-at c =
    let plugin = c.args.plugin in
    let made = c.args.made.now.count in
    let s = tree_of c.args.live.now in
    let target = c.in-Extend.target in
    let name = c.as_slice-name.result.now in
    let body = c.as_slice-then-makes_fragment.result.now in
    let next = extension-next c.args.fragments.now c.args.extension c.args.made.now.count c.requires.ready.0 c.args.item.now c.in-Extend.labels c.in-Extend.target c.in-Extend.body
    c.in-Extend.is c.requires.ready.1 c.requires.counted in
    let named = next.name name c.index.result.now (c.as_slice-name.ensures.value ∙ ap (λ v. v.items) c.index.ensures) in
    let same : item_place plugin c.args.item.now (counted made s) ≡ fragment_place target body name (counted made s) =
    ap (λ i. item_place plugin i (counted made s)) c.in-Extend.is
    ∙ place-of-fragment plugin c.in-Extend.labels target c.in-Extend.body made s name (sym c.makes_fragment.ensures ∙ c.if-makes_fragment.true) named
    ∙ ap (λ ss. fragment_place target ss name (counted made s)) (sym c.as_slice-then-makes_fragment.ensures.value) in
    placed-same (fragment_place target body name (counted made s)) (item_place plugin c.args.item.now (counted made s)) c.add_fragment.result (sym same) c.add_fragment.ensures.at

pub returns-else-makes_fragment-clause-at : goal.returns-else-makes_fragment-clause-at
returns-else-makes_fragment-clause-at c =
    let plugin = c.args.plugin in
    let made = c.args.made.now.count in
    let s = tree_of c.args.live.now in
    let target = c.in-Extend.target in
    let labels = c.in-Extend.labels in
    let body = c.as_slice-else-makes_fragment.result.now in
    let same : item_place plugin c.args.item.now (counted made s) ≡ extension_place labels target body (counted made s) =
    ap (λ i. item_place plugin i (counted made s)) c.in-Extend.is
    ∙ place-of-extension plugin labels target c.in-Extend.body made s (sym c.makes_fragment.ensures ∙ c.if-makes_fragment.false)
    ∙ ap (λ ss. extension_place labels target ss (counted made s)) (sym c.as_slice-else-makes_fragment.ensures.value) in
    placed-same (extension_place labels target body (counted made s)) (item_place plugin c.args.item.now (counted made s)) c.extend.result (sym same) c.extend.ensures.at
