use Rattle.std.proofs.Common.{◌≡◌, ◌≤◌, Result, sym, ap, ◌∙◌, subst, arith}
use Rattle.dt_source.specs.Tree.{item_view, labels_view, target_view, views}
use Rattle.dt_source.specs.TreeMeaning.Names.{fragment_name}
use Rattle.dt_source.specs.TreeMeaning.Statements.{Fault}
use Rattle.dt_source.specs.TreeMeaning.DtcEdits.{DtcTree}
use Rattle.dt_source.specs.TreeMeaning.DtcStatements.{dtc_fragment, dtc_item, with_root}
use Rattle.dt_build.specs.Edit.DtcFaultPlaces.{dtc_extension_place, dtc_fragment_place, dtc_item_place}
use Rattle.dt_build.specs.Edit.EditFault.{Gives}
use Rattle.dt_build.specs.Edit.Said.{pieces}
use Rattle.dt_build.specs.Edit.Private.DtcEdited.{placed_of}
use Rattle.dt_build.proofs.EditLemmas.DtcFaultPlaces.{place-of-extension, place-of-fragment}
use Rattle.dt_build.proofs.EditLemmas.DtcItems.{item-begins, root-same}
use Rattle.dt_build.proofs.EditLemmas.FaultPlaces.{placed-same}
use Rattle.dt_build.proofs.EditLemmas.Readiness.{extension-next, value_of}
use Rattle.dt_build.proofs.edit.dtc_items.edit_dtc_item.Goals as goal

pub index-requires : goal.index-requires
index-requires c =
    let old = c.args.placed.now in
    let made = c.fragments-made.result in
    let same : made ≡ old.fragments = c.fragments-made.ensures ∙ ap (λ (u : DtcTree). u.fragments) (c.begin.ensures.tree pieces) ∙ root-same (placed_of old) in
    let few : made ≤ c.args.extension = omega (arith, same, c.requires.counted) in
    let next = extension-next c.args.fragments.now c.args.extension made c.requires.fragments.0 c.args.item.now c.in-Extend.labels c.in-Extend.target c.in-Extend.body
    c.in-Extend.is c.requires.fragments.1 few in
    omega (arith, next.within, c.args.fragments.now.names.ok)

pub add_dtc_fragment-requires-clause-value : goal.add_dtc_fragment-requires-clause-value
add_dtc_fragment-requires-clause-value c =
    let old = c.args.placed.now in
    let made = c.fragments-made.result in
    let same : made ≡ old.fragments = c.fragments-made.ensures ∙ ap (λ (u : DtcTree). u.fragments) (c.begin.ensures.tree pieces) ∙ root-same (placed_of old) in
    let few : made ≤ c.args.extension = omega (arith, same, c.requires.counted) in
    let next = extension-next c.args.fragments.now c.args.extension made c.requires.fragments.0 c.args.item.now c.in-Extend.labels c.in-Extend.target c.in-Extend.body
    c.in-Extend.is c.requires.fragments.1 few in
    ap value_of c.index-value.ensures ∙ next.value c.index-value.result.now

pub returns-then-begins-clause-item : goal.returns-then-begins-clause-item
returns-then-begins-clause-item c =
    let old = c.args.placed.now in
    let t = placed_of old in
    let plugin = c.args.plugin in
    let target = target_view c.in-Extend.target in
    let made = c.fragments-made.result in
    let same : made ≡ old.fragments = c.fragments-made.ensures ∙ ap (λ (u : DtcTree). u.fragments) (c.begin.ensures.tree pieces) ∙ root-same t in
    let few : made ≤ c.args.extension = omega (arith, same, c.requires.counted) in
    let next = extension-next c.args.fragments.now c.args.extension made c.requires.fragments.0 c.args.item.now c.in-Extend.labels c.in-Extend.target c.in-Extend.body
    c.in-Extend.is c.requires.fragments.1 few in
    let name = c.as_slice-name.result.now in
    let named = next.name name c.index.result.now (c.as_slice-name.ensures.value ∙ ap (λ v. v.items) c.index.ensures) ∙ ap fragment_name same in
    let is : dtc_item plugin (item_view c.args.item.now) t ≡ dtc_fragment target (views c.as_slice-then-begins.result.now) name (placed_of c.begin.new.self) =
    ap (λ i. dtc_item plugin (item_view i) t) c.in-Extend.is
    ∙ item-begins plugin (labels_view c.in-Extend.labels) target (views c.in-Extend.body.items) t name (sym c.in_ok-begins-in-Extend.ensures ∙ c.if-begins.true) named
    ∙ ap (λ ss. dtc_fragment target (views ss) name (with_root t)) (sym c.as_slice-then-begins.ensures.value)
    ∙ ap (dtc_fragment target (views c.as_slice-then-begins.result.now) name) (sym (c.begin.ensures.tree pieces)) in
    subst (λ (r : Result DtcTree Fault). Gives r (λ _. placed_of c.add_dtc_fragment.new.placed) c.add_dtc_fragment.result) (sym {A = Result DtcTree Fault} is) c.add_dtc_fragment.ensures.item

-- ---- where an item is refused
pub returns-then-begins-clause-at : goal.returns-then-begins-clause-at
returns-then-begins-clause-at c =
    let old = c.args.placed.now in
    let t = placed_of old in
    let plugin = c.args.plugin in
    let target = c.in-Extend.target in
    let made = c.fragments-made.result in
    let same : made ≡ old.fragments = c.fragments-made.ensures ∙ ap (λ (u : DtcTree). u.fragments) (c.begin.ensures.tree pieces) ∙ root-same t in
    let few : made ≤ c.args.extension = omega (arith, same, c.requires.counted) in
    let next = extension-next c.args.fragments.now c.args.extension made c.requires.fragments.0 c.args.item.now c.in-Extend.labels c.in-Extend.target c.in-Extend.body
    c.in-Extend.is c.requires.fragments.1 few in
    let name = c.as_slice-name.result.now in
    let named = next.name name c.index.result.now (c.as_slice-name.ensures.value ∙ ap (λ v. v.items) c.index.ensures) ∙ ap fragment_name same in
    let body = c.as_slice-then-begins.result.now in
    let here = placed_of c.begin.new.self in
    let is : dtc_item_place plugin c.args.item.now t ≡ dtc_fragment_place target body name here =
    ap (λ i. dtc_item_place plugin i t) c.in-Extend.is
    ∙ place-of-fragment plugin c.in-Extend.labels target c.in-Extend.body t name (sym c.in_ok-begins-in-Extend.ensures ∙ c.if-begins.true) named
    ∙ ap (λ ss. dtc_fragment_place target ss name (with_root t)) (sym c.as_slice-then-begins.ensures.value)
    ∙ ap (dtc_fragment_place target body name) (sym (c.begin.ensures.tree pieces)) in
    placed-same (dtc_fragment_place target body name here) (dtc_item_place plugin c.args.item.now t) c.add_dtc_fragment.result (sym is) c.add_dtc_fragment.ensures.at

pub returns-else-begins-clause-at : goal.returns-else-begins-clause-at
returns-else-begins-clause-at c =
    let t = placed_of c.args.placed.now in
    let plugin = c.args.plugin in
    let labels = c.in-Extend.labels in
    let target = c.in-Extend.target in
    let body = c.as_slice-else-begins.result.now in
    let is : dtc_item_place plugin c.args.item.now t ≡ dtc_extension_place labels target body t =
    ap (λ i. dtc_item_place plugin i t) c.in-Extend.is
    ∙ place-of-extension plugin labels target c.in-Extend.body t (sym c.in_ok-begins-in-Extend.ensures ∙ c.if-begins.false)
    ∙ ap (λ ss. dtc_extension_place labels target ss t) (sym c.as_slice-else-begins.ensures.value) in
    placed-same (dtc_extension_place labels target body t) (dtc_item_place plugin c.args.item.now t) c.extend.result (sym is) c.extend.ensures.at
