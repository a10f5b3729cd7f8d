-- A single edit that is refused stops the edits.
use Rattle.dt_live.specs.declared.placed.error.PlaceError.{PlaceError}
use Rattle.dt_live.specs.declared.placed.error.PlaceError.TheVariants as places
use Rattle.dt_build.specs.declared.edit.error.EditErrorKind.{EditErrorKind}
use Rattle.dt_build.specs.declared.edit.error.EditErrorKind.TheVariants.{NoMemory, DuplicateInBody}

abbrev pub place_error : PlaceError → EditErrorKind
place_error places.NoMemory = NoMemory
place_error places.DuplicateInBody = DuplicateInBody
