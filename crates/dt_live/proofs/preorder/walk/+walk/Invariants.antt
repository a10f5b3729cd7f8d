use Rattle.std.proofs.Common.{◌≡◌, ◌-◌, ◌++◌, ◌∷◌, take}
use Rattle.std.specs.List.{flat_map}
use Rattle.dt_live.specs.Private.Lists.{list_of}
use Rattle.dt_live.specs.Private.Walks.{rows_walk}
use Rattle.dt_live.proofs.preorder.walk.+walk.Given as goal

abbrev pub invariant-loop-child : goal.invariant-loop-child
invariant-loop-child l =
    l.order.items ≡ l.fn.order.items ++ l.node ∷ flat_map (rows_walk (l.levels - 1) (list_of l.children)) (take l.child-index (list_of l.children l.node))

abbrev pub decreases-walk : goal.decreases-walk
decreases-walk l = l.levels
