use Rattle.std.proofs.Common.{◌≡◌, ◌++◌, ◌∷◌, ◌+◌, ◌<◌, length, map, drop, sym, ap, ap₂, ◌∙◌, add-one, arith}
use Rattle.std.proofs.Math.Seq.{drop-cons}
use Rattle.std.specs.List.{flat_map}
use Rattle.dt_source.specs.Tree.{item_view}
use Rattle.dt_build.specs.Edit.Fragments.{target_values}
use Rattle.dt_build.proofs.EditLemmas.Collecting.{lawful-at, targets-more}
use Rattle.dt_build.proofs.EditLemmas.Readiness.{value_of}
use Rattle.dt_build.proofs.edit.fragments.fragments_of.Goals as goal

pub add_item-requires-clause-lawful : goal.add_item-requires-clause-lawful
add_item-requires-clause-lawful c =
    let at = c.loop-item.item-index in
    let items = c.args.items.now in
    let within : at < length items = omega arith in
    lawful-at items at c.item-item.result within c.item-item.is c.requires

pub loop-item-preserved : goal.loop-item-preserved
loop-item-preserved c =
    let i = c.loop-item.invariant in
    let e = c.in_ok-add_item.ensures in
    let at = c.loop-item.item-index in
    let items = c.args.items.now in
    let item = c.item-item.result in
    let old = c.loop-item.fragments in
    let within : at < length items = omega arith in
    let next : drop at items ≡ item ∷ drop (at + 1) items = drop-cons items at item within ∙ ap₂ (λ a n. a ∷ drop n items) (sym c.item-item.is) (sym (add-one at)) in
    record {
      names = e.named;
      targets = targets-more old.targets.items c.add_item.new.self.targets.items (item_view item) (map item_view (drop (at + 1) items))
          (flat_map target_values (map item_view items)) e.targets
          (ap (λ xs. map value_of old.targets.items ++ flat_map target_values (map item_view xs)) (sym next) ∙ i.targets);
    }
