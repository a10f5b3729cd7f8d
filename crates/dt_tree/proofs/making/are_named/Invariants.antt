use Rattle.std.proofs.Common.{◌≡◌, drop}
use Rattle.dt_tree.specs.NodeData.{siblings, child_names}
use Rattle.dt_tree.specs.Name.{are_names}
use Rattle.dt_tree.specs.Fault.{are_named}
use Rattle.dt_tree.proofs.making.are_named.Given as goal

abbrev pub invariant-loop-node : goal.invariant-loop-node
invariant-loop-node l = record { value : are_named (drop l.node-index l.nodes) ≡ are_named l.nodes; names : are_names (child_names (siblings (drop l.node-index l.nodes))) ≡ are_names (child_names (siblings l.nodes)) }
