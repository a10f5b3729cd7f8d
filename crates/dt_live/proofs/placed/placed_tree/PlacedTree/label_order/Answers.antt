use Rattle.std.proofs.Common.{◌≡◌, ℕ, List, map, sym, ap, ◌∙◌, subst, arith}
use Rattle.std.proofs.lemmas.List.{take_all}
use Rattle.dt_live.specs.declared.preorder.properties.NodeProperty.{NodeProperty}
use Rattle.dt_live.specs.Placed.Standing.{AreOrdered}
use Rattle.dt_live.proofs.PlacedLemmas.LabelsShown.{ordered}
use Rattle.dt_live.proofs.placed.placed_tree.PlacedTree.label_order.Goals as goal

pub returns : goal.returns
returns g c =
    let d = c.args.self.now in
    let xs : List (NodeProperty ℕ) = c.in_ok-order.order.properties.items in
    let all = c.as_slice-label-items.result.now in
    let is : c.loop-label.rows.items ≡ map (λ x. x.value) xs =
    c.loop-label.invariant ∙ ap (map (λ x. x.value)) (take_all c.loop-label.label-index all (omega (arith, c.loop-label-test.false)) ∙ c.as_slice-label-items.ensures.value) in
    subst (AreOrdered d) (sym is) (ordered d c.in_ok-shown.shown xs c.in_ok-shown.ensures c.in_ok-order.ensures.properties)
