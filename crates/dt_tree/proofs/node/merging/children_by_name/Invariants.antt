use Rattle.std.proofs.Common.{drop}
use Rattle.dt_tree.proofs.NameMaps.{held, IsReadUpTo}
use Rattle.dt_tree.proofs.OneNode.{names_of, child_in}
use Rattle.dt_tree.proofs.node.merging.children_by_name.Given as goal

abbrev pub invariant-loop-child : goal.invariant-loop-child
invariant-loop-child l = IsReadUpTo names_of child_in (held l.nodes) (drop l.child-index l.children) l.children
