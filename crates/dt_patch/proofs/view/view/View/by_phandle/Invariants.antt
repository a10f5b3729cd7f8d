use Rattle.std.proofs.Common.{◌-◌, length}
use Rattle.std.specs.Prelude.{find}
use Rattle.dt_tree.specs.TreeData.{TreeData}
use Rattle.dt_patch.specs.View.Order.{has_phandle, in_order}
use Rattle.dt_patch.specs.View.Shows.{Views}
use Rattle.dt_patch.proofs.ViewLemmas.Orders.{Seeking}
use Rattle.dt_patch.proofs.view.view.View.by_phandle.Given as goal

abbrev pub invariant-nodes : goal.invariant-nodes
invariant-nodes l = (tree : TreeData) → Views l.self tree → Seeking l.self l.node.at (has_phandle l.phandle) (find (has_phandle l.phandle) (in_order tree.root))

abbrev pub decreases-nodes : goal.decreases-nodes
decreases-nodes l = length l.self.structure.now - l.node.at
