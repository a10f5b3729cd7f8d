use Rattle.std.proofs.Common.{◌≡◌, ◌-◌, ◌∷◌, ◌++◌, [], true, List, length}
use Rattle.dt_tree.specs.declared.property.Property.{Property}
use Rattle.dt_blob.specs.Token.{Token, property_tokens}
use Rattle.dt_patch.specs.View.Reaching.{Reached}
use Rattle.dt_patch.specs.View.Standing.{Ahead, ends_properties}
use Rattle.dt_patch.proofs.ViewLemmas.Ends.{Ending}
use Rattle.dt_patch.proofs.view.view.View.properties_end_from.Given as goal

abbrev pub invariant-properties : goal.invariant-properties
invariant-properties l = (ps : List Property) (t : Token) (before : List Token) → ends_properties t ≡ true → Ahead l.self l.from (property_tokens ps ++ t ∷ []) → Reached l.self l.from before
    → Ending l.self l.at t (before ++ property_tokens ps)

abbrev pub decreases-properties : goal.decreases-properties
decreases-properties l = length l.self.structure.now - l.at
