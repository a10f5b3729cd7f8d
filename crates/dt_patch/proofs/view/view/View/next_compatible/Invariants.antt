use Rattle.std.proofs.Common.{◌-◌, List, length}
use Rattle.dt_tree.specs.NodeData.{NodeData}
use Rattle.dt_patch.specs.View.Order.{StandsIn, from_first, is_compatible}
use Rattle.dt_patch.proofs.ViewLemmas.Orders.{Behind}
use Rattle.dt_patch.proofs.view.view.View.next_compatible.Given as goal

abbrev pub invariant-nodes : goal.invariant-nodes
invariant-nodes l = (d : NodeData) (later : List NodeData) → StandsIn l.self l.fn.node.at d later → Behind l.self l.at.at (is_compatible l.text) (from_first (is_compatible l.text) later)

abbrev pub decreases-nodes : goal.decreases-nodes
decreases-nodes l = length l.self.structure.now - l.at.at
