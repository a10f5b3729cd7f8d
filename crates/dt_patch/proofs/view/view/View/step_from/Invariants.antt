use Rattle.std.proofs.Common.{◌-◌, ◌≤◌, ◌++◌, List, length}
use Rattle.dt_tree.specs.declared.property.Property.{Property}
use Rattle.dt_tree.specs.NodeData.{Siblings}
use Rattle.dt_blob.specs.Token.{property_tokens}
use Rattle.dt_patch.specs.View.Order.{upward}
use Rattle.dt_patch.specs.View.Standing.{Ahead}
use Rattle.dt_patch.proofs.ViewLemmas.Steps.{Passing}
use Rattle.dt_patch.proofs.view.view.View.step_from.Given as goal

abbrev pub invariant-tokens : goal.invariant-tokens
invariant-tokens l = record {
  passing : (ps : List Property) (fs : List Siblings) → Ahead l.self l.from (property_tokens ps ++ upward fs) → Passing l.self l.at l.left l.depth fs;
  less : l.left ≤ l.depth;
}

abbrev pub decreases-tokens : goal.decreases-tokens
decreases-tokens l = length l.self.structure.now - l.at
