use Rattle.std.proofs.Common.{◌≡◌, map, take}
use Rattle.dt_live.proofs.placed.placed_tree.PlacedTree.label_order.Given as goal

abbrev pub invariant-loop-label : goal.invariant-loop-label
invariant-loop-label g l = l.rows.items ≡ map (λ x. x.value) (take l.label-index l.label-items)
