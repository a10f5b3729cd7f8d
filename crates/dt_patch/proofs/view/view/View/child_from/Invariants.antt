use Rattle.std.proofs.Common.{◌≡◌, ◌-◌, ◌++◌, true, List, length}
use Rattle.dt_tree.specs.declared.property.Property.{Property}
use Rattle.dt_tree.specs.NodeData.{Siblings}
use Rattle.dt_tree.specs.PathMap.{child_named}
use Rattle.dt_blob.specs.Token.{Token, property_tokens}
use Rattle.dt_patch.specs.View.Private.Reading.{inside_tokens}
use Rattle.dt_patch.specs.View.Reaching.{Reached, before_child}
use Rattle.dt_patch.specs.View.Standing.{Ahead, ends}
use Rattle.dt_patch.proofs.ViewLemmas.Names.{NamedLeft}
use Rattle.dt_patch.proofs.ViewLemmas.Reaches.{Toward}
use Rattle.dt_patch.proofs.view.view.View.child_from.Given as goal

abbrev pub invariant-tokens : goal.invariant-tokens
invariant-tokens l = record {
  named : (ps : List Property) (nodes : Siblings) (last : Token) → ends last ≡ true → Ahead l.self l.from (inside_tokens ps nodes last) → NamedLeft l.self l.at last l.name (child_named nodes l.name);
  toward : (ps : List Property) (nodes : Siblings) (last : Token) (before : List Token) → ends last ≡ true → Ahead l.self l.from (inside_tokens ps nodes last) → Reached l.self l.from before
      → Toward l.self l.at last l.name (before ++ (property_tokens ps ++ before_child nodes l.name));
}

abbrev pub decreases-tokens : goal.decreases-tokens
decreases-tokens l = length l.self.structure.now - l.at
