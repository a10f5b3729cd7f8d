-- What is told of where a property stands.
use Rattle.std.specs.Prelude.{ℕ, ◌≤◌, ◌<◌, List, length, Option, Result, IfOk, IfSome, IsOkAnd}
use Rattle.dt_blob.specs.Token.{Token, property}
use Rattle.dt_patch.specs.declared.view.error.ViewError.{ViewError}
use Rattle.dt_patch.specs.declared.view.properties.PlacedProperty.{PlacedProperty}
use Rattle.dt_patch.specs.declared.view.view.View.{View}
use Rattle.dt_patch.specs.View.Reaching.{IsSpelled, Reached}

-- the property's place, if any, has these tokens before it
abbrev pub TellsPlaced : View → Result (Option PlacedProperty) ViewError → List Token → Type 0
TellsPlaced view answer tokens = IsOkAnd answer (λ place. IfSome place (λ p. Reached view p.at tokens))

-- the property is spelled from one offset up to the other
abbrev pub IsPlaced : View → PlacedProperty → List ℕ → Type 0
IsPlaced view p name = IsSpelled view p.at (property name p.value.now) p.next × (p.at < p.next) × (p.next ≤ length view.structure.now)

abbrev pub AreSpelled : View → Result (Option PlacedProperty) ViewError → List ℕ → Type 0
AreSpelled view answer name = IfOk answer (λ place. IfSome place (λ p. IsPlaced view p name))
