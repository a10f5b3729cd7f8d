use Rattle.std.proofs.Common.{◌≡◌, ◌-◌, ◌≤◌, ◌∷◌, ◌++◌, [], List, Some, length}
use Rattle.dt_tree.specs.declared.property.Property.{Property}
use Rattle.dt_tree.specs.NodeData.{Siblings}
use Rattle.dt_blob.specs.Token.{Token, end_node, property_tokens, sibling_tokens}
use Rattle.dt_patch.specs.View.Ending.{closed}
use Rattle.dt_patch.specs.View.Reaching.{Reached}
use Rattle.dt_patch.specs.View.Standing.{Ahead}
use Rattle.dt_patch.proofs.ViewLemmas.Descents.{Closing}
use Rattle.dt_patch.proofs.ViewLemmas.Reaches.{Passing}
use Rattle.dt_patch.proofs.ViewLemmas.Throughs.{Inside}
use Rattle.dt_patch.proofs.view.view.View.node_end.Given as goal

abbrev pub invariant-tokens : goal.invariant-tokens
invariant-tokens l = record {
  closing : (ps : List Property) (nodes : Siblings) (ts : List Token) → Ahead l.self l.from (property_tokens ps ++ (sibling_tokens nodes ++ end_node ∷ ts)) → Closing l.self l.at l.levels ts;
  passing : (ps : List Property) (nodes : Siblings) (ts before : List Token) → Ahead l.self l.from (property_tokens ps ++ (sibling_tokens nodes ++ end_node ∷ ts)) → Reached l.self l.from before
      → Passing l.self l.at l.levels ts (before ++ (property_tokens ps ++ (sibling_tokens nodes ++ end_node ∷ [])));
  opened : (us ts : List Token) → Ahead l.self l.from us → closed 0 us ≡ Some ts → Closing l.self l.at l.levels ts;
  inside : Inside l.self l.from l.at l.levels;
  bounded : l.levels ≤ l.at;
  begins : l.from ≤ l.at;
}

abbrev pub decreases-tokens : goal.decreases-tokens
decreases-tokens l = length l.self.structure.now - l.at
