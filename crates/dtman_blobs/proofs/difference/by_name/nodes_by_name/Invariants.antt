use Rattle.std.proofs.Common.{drop}
use Rattle.dt_tree.proofs.NameMaps.{held, IsReadUpTo}
use Rattle.dt_tree.proofs.OneNode.{names_of, child_in}
use Rattle.dtman_blobs.proofs.difference.by_name.nodes_by_name.Given as goal

abbrev pub invariant-loop-node : goal.invariant-loop-node
invariant-loop-node l = IsReadUpTo names_of child_in (held l.found) (drop l.node-index l.nodes) l.nodes
