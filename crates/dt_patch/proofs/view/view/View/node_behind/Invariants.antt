use Rattle.std.proofs.Common.{◌-◌, ◌≤◌, ◌++◌, List, length}
use Rattle.dt_tree.specs.declared.property.Property.{Property}
use Rattle.dt_tree.specs.NodeData.{Siblings}
use Rattle.dt_blob.specs.Token.{property_tokens}
use Rattle.dt_patch.specs.View.Order.{upward, nodes_left}
use Rattle.dt_patch.specs.View.Standing.{Ahead}
use Rattle.dt_patch.proofs.ViewLemmas.Orders.{LeftOf}
use Rattle.dt_patch.proofs.view.view.View.node_behind.Given as goal

abbrev pub invariant-tokens : goal.invariant-tokens
invariant-tokens l = record {
  left : (ps : List Property) (fs : List Siblings) → Ahead l.self l.from (property_tokens ps ++ upward fs) → LeftOf l.self l.at (nodes_left fs);
  begins : l.from ≤ l.at;
}

abbrev pub decreases-tokens : goal.decreases-tokens
decreases-tokens l = length l.self.structure.now - l.at
