use Rattle.std.proofs.Common.{◌≡◌, ◌-◌, ◌∷◌, ◌++◌, [], true, List, length}
use Rattle.dt_tree.specs.declared.property.Property.{Property}
use Rattle.dt_tree.specs.PathMap.{value_of}
use Rattle.dt_blob.specs.Token.{Token, property_tokens}
use Rattle.dt_patch.specs.View.Reaching.{Reached, before_property}
use Rattle.dt_patch.specs.View.Standing.{Ahead, ends_properties}
use Rattle.dt_patch.proofs.ViewLemmas.Holdings.{Remaining}
use Rattle.dt_patch.proofs.ViewLemmas.Reaches.{Placing}
use Rattle.dt_patch.proofs.view.view.View.placed_from.Given as goal

abbrev pub invariant-properties : goal.invariant-properties
invariant-properties l = record {
  remaining : (ps : List Property) (t : Token) → ends_properties t ≡ true → Ahead l.self l.from (property_tokens ps ++ t ∷ []) → Remaining l.self l.at t l.name (value_of ps l.name);
  placing : (ps : List Property) (t : Token) (before : List Token) → ends_properties t ≡ true → Ahead l.self l.from (property_tokens ps ++ t ∷ []) → Reached l.self l.from before
      → Placing l.self l.at t l.name (before ++ before_property ps l.name);
}

abbrev pub decreases-properties : goal.decreases-properties
decreases-properties l = length l.self.structure.now - l.at
