use Rattle.std.proofs.Common.{◌≡◌, ◌+◌, ◌++◌, ◌&&◌, Bool, not, drop, is_some, List, ℕ, Option, ap, sym, ◌∙◌}
use Rattle.dt_tree.specs.declared.property.Property.{Property}
use Rattle.dt_tree.specs.PathMap.{value_of}
use Rattle.dt_tree.proofs.NameMaps.{held-some}
use Rattle.dtman_blobs.specs.Difference.SameBoard.{is_own_phandle}
use Rattle.dtman_blobs.specs.Difference.Private.Orders.{is_shared, shared_properties}
use Rattle.dtman_blobs.specs.Difference.Private.Views.{now_of}
use Rattle.dtman_blobs.proofs.DifferenceLemmas.ListedLemmas.{listed-end, unlisted-next}
use Rattle.dtman_blobs.proofs.DifferenceLemmas.OrderLemmas.{name-next}
use Rattle.dtman_blobs.proofs.difference.ordering.shared_properties.Goals as goal
use Rattle.dtman_blobs.proofs.difference.ordering.shared_properties.Goals.{then-contains_key+in_ok-push, else-contains_key}

pub loop-property-init : goal.loop-property-init
loop-property-init c = ap (λ l. now_of l ++ shared_properties c.args.theirs.now.properties c.properties-property-items.result.now) c.new-names.ensures.items

pub loop-property-preserved-then-is_own_phandle : goal.loop-property-preserved-then-is_own_phandle
loop-property-preserved-then-is_own_phandle c =
    let qs = c.args.theirs.now.properties in
    let p = c.property-item.result in
    let own = ap is_own_phandle (sym c.as_bytes-name.ensures.value) ∙ sym c.is_own_phandle.ensures ∙ c.if-is_own_phandle.true in
    unlisted-next (is_shared qs) (λ (q : Property). q.name) (now_of c.loop-property.names.items) c.properties-property-items.result.now c.loop-property.property-index p c.loop-property-test.true c.property-item.is
    (ap (λ (t : Bool). not t && is_some (value_of qs p.name)) own)
    ∙ c.loop-property.invariant

pub loop-property-preserved : goal.loop-property-preserved
loop-property-preserved c =
    let qs = c.args.theirs.now.properties in
    let ours = c.properties-property-items.result.now in
    let made = λ (q : Property). q.name in
    let i = c.loop-property.property-index in
    let p = c.property-item.result in
    let k = c.as_bytes-name.result.now in
    let own = ap is_own_phandle (sym c.as_bytes-name.ensures.value) ∙ sym c.is_own_phandle.ensures ∙ c.if-is_own_phandle.false in
    let found : c.contains_key.result ≡ is_some (value_of qs p.name) =
    c.contains_key.ensures ∙ held-some c.in_ok-values.values k ∙ ap (λ (o : Option (List ℕ)). is_some o) (c.in_ok-values.ensures k) ∙ ap (λ (ps : List Property). is_some (value_of ps k)) c.properties.ensures
    ∙ ap (λ (n : List ℕ). is_some (value_of qs n)) c.as_bytes-name.ensures.value in
    let mark : is_shared qs p ≡ c.contains_key.result = ap (λ (t : Bool). not t && is_some (value_of qs p.name)) own ∙ sym found in
    elim c.if-contains_key.branch [
      | then-contains_key+in_ok-push w ↦
          ap (λ v. now_of v.items ++ shared_properties qs (drop (i + 1) ours)) w.names-is
          ∙ name-next (is_shared qs) made c.loop-property.names.items _ c.as_bytes-name.result ours i p w.in_ok-push.ensures.items c.loop-property-test.true c.property-item.is c.as_bytes-name.ensures.value
          (mark ∙ w.if-contains_key.true)
          ∙ c.loop-property.invariant
      | else-contains_key w ↦
          ap (λ v. now_of v.items ++ shared_properties qs (drop (i + 1) ours)) w.names-is
          ∙ unlisted-next (is_shared qs) made (now_of c.loop-property.names.items) ours i p c.loop-property-test.true c.property-item.is (mark ∙ w.if-contains_key.false)
          ∙ c.loop-property.invariant
    ]

pub returns : goal.returns
returns c =
    let qs = c.args.theirs.now.properties in
    let ours = c.properties-property-items.result.now in
    sym (listed-end (is_shared qs) (λ (q : Property). q.name) (now_of c.loop-property.names.items) ours c.loop-property.property-index c.loop-property-test.false)
    ∙ c.loop-property.invariant
    ∙ ap (shared_properties qs) c.properties-property-items.ensures
