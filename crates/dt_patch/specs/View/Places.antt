-- Where a node or a property stands that may not be there, and what calls tell of it.
use Rattle.std.specs.Prelude.{◌≡◌, List, [], Option, None, Some, Result, IsOkAnd, MatchOption}
use Rattle.dt_tree.specs.declared.property.Property.{Property}
use Rattle.dt_tree.specs.NodeData.{NodeData, Siblings, none}
use Rattle.dt_patch.specs.declared.view.error.ViewError.{ViewError}
use Rattle.dt_patch.specs.declared.view.nodes.NodeOffset.{NodeOffset}
use Rattle.dt_patch.specs.declared.view.properties.PropertyOffset.{PropertyOffset}
use Rattle.dt_patch.specs.declared.view.view.View.{View}
use Rattle.dt_patch.specs.View.Standing.{PropertiesFrom, StandFrom, StandsAt}

abbrev pub IsPlaceOf : View → Option NodeOffset → Option NodeData → Type 0
IsPlaceOf view None node = node ≡ None
IsPlaceOf view (Some place) node = (d : NodeData) × (node ≡ Some d) × StandsAt view place.at d

-- the node's place is told, or that there is none
abbrev pub TellsPlace : View → Result (Option NodeOffset) ViewError → Option NodeData → Type 0
TellsPlace view answer node = IsOkAnd answer (λ place. IsPlaceOf view place node)

-- the place is told from which on these nodes stand, or that there are none
abbrev pub TellsNodes : View → Result (Option NodeOffset) ViewError → Siblings → Type 0
TellsNodes view answer nodes = IsOkAnd answer (λ place. MatchOption place (nodes ≡ none) (λ p. StandFrom view p.at nodes))

-- the place is told from which on these properties stand, or that there are none
abbrev pub TellsProperties : View → Result (Option PropertyOffset) ViewError → List Property → Type 0
TellsProperties view answer ps = IsOkAnd answer (λ place. MatchOption place (ps ≡ []) (λ p. PropertiesFrom view p.at ps))
