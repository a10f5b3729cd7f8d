use Rattle.std.proofs.Common.{◌≡◌, ℕ, not, List, ◌+◌, ◌++◌, drop, is_some, Option, refl, ap, sym, ◌∙◌, append-nil}
use Rattle.std.proofs.lemmas.List.{at_drop_all}
use Rattle.dt_tree.specs.declared.property.Property.{Property}
use Rattle.dt_tree.specs.NodeData.{property_names}
use Rattle.dt_tree.specs.Private.Merging.{new_properties}
use Rattle.dt_tree.specs.Sound.{is_among}
use Rattle.dt_tree.proofs.Collected.{kept-next, left-next}
use Rattle.dt_tree.proofs.NameMaps.{held-some}
use Rattle.dt_tree.proofs.Places.{value-among}
use Rattle.dt_tree.proofs.node.merging.push_new_properties.Goals as goal
use Rattle.dt_tree.proofs.node.merging.push_new_properties.Goals.{then-not-contains_key+in_ok-push_property, else-not-contains_key}

pub loop-property-preserved : goal.loop-property-preserved
loop-property-preserved c =
    let ns = property_names c.args.ours.now in
    let theirs = c.args.theirs.now in
    let i = c.loop-property.property-index in
    let x = c.property-item.result in
    let k = c.as_bytes.result.now in
    let is_new : Property → _ = λ b. not (is_among b.name ns) in
    let mark : c.contains_key.result ≡ is_among x.name ns =
    c.contains_key.ensures ∙ held-some c.in_ok-ours.ours k ∙ ap (λ (o : Option (List ℕ)). is_some o) (c.in_ok-ours.ensures k) ∙ value-among c.args.ours.now k ∙ ap (λ m. is_among m ns) c.as_bytes.ensures.value in
    elim c.if-not-contains_key.branch [
      | then-not-contains_key+in_ok-push_property w ↦
          ap (λ v. v.items ++ new_properties ns (drop (i + 1) theirs)) w.merged-is
          ∙ ap (λ (l : List Property). l ++ new_properties ns (drop (i + 1) theirs)) w.in_ok-push_property.ensures
          ∙ kept-next is_new c.loop-property.merged.items theirs i x _ c.loop-property-test.true c.property-item.is refl (ap not (sym mark ∙ w.if-not-contains_key.true))
          ∙ c.loop-property.invariant
      | else-not-contains_key w ↦
          ap (λ v. v.items ++ new_properties ns (drop (i + 1) theirs)) w.merged-is
          ∙ left-next is_new c.loop-property.merged.items theirs i x c.loop-property-test.true c.property-item.is (ap not (sym mark ∙ w.if-not-contains_key.false))
          ∙ c.loop-property.invariant
    ]

pub returns : goal.returns
returns c =
    let out = c.loop-property.merged.items in
    sym (at_drop_all (λ (l : List Property). out ++ new_properties (property_names c.args.ours.now) l) c.args.theirs.now c.loop-property.property-index c.loop-property-test.false ∙ append-nil out) ∙ c.loop-property.invariant
