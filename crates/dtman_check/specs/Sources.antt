-- The places of a source, where there is one.
use Rattle.std.specs.Prelude.{Option, Some, None}
use Rattle.dt_live.specs.declared.making.places.Places.{Places}
use Rattle.dtman_check.specs.declared.answer.Source.{Source}

abbrev pub places_in : Option Source → Option Places
places_in None = None
places_in (Some source) = Some source.places.now
