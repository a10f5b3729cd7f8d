use Rattle.std.proofs.Common.{◌≡◌, ◌++◌, map, drop}
use Rattle.dt_tree.specs.Private.Merging.{merged_child}
use Rattle.dt_tree.proofs.node.Node.+merged.Given as goal

abbrev pub invariant-loop-child : goal.invariant-loop-child
invariant-loop-child l = l.children.items ++ map (merged_child l.other.children) (drop l.child-index l.child-items) ≡ map (merged_child l.other.children) l.child-items
