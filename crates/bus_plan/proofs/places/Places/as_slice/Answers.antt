-- A set has each key once.
use Rattle.std.proofs.Common.{◌∙◌, ap, sym}
use Rattle.bus_plan.specs.Private.Places.{are_once}
use Rattle.bus_plan.proofs.PlacesLemmas.{once-of}
use Rattle.bus_plan.proofs.places.Places.as_slice.Goals as goal

pub returns-clause-once : goal.returns-clause-once
returns-clause-once c = ap are_once (sym c.self.view_is) ∙ once-of c.self.inside.set.keys c.as_slice.ensures.unique
