use Rattle.std.proofs.Common.{◌≡◌, ◌++◌, drop}
use Rattle.dt_tree.proofs.node.merging.push_copies.Given as goal

abbrev pub invariant-loop-node : goal.invariant-loop-node
invariant-loop-node l = l.copies.items ++ drop l.node-index l.nodes ≡ l.initial.copies.items ++ l.nodes
