-- A label at two nodes stops the edits once all is read.
use Rattle.dt_live.specs.declared.placed.error.StandError.{StandError}
use Rattle.dt_live.specs.declared.placed.error.StandError.TheVariants as stands
use Rattle.dt_build.specs.declared.edit.error.EditErrorKind.{EditErrorKind}
use Rattle.dt_build.specs.declared.edit.error.EditErrorKind.TheVariants.{NoMemory, DuplicateLabel}

abbrev pub stand_error : StandError → EditErrorKind
stand_error stands.NoMemory = NoMemory
stand_error (stands.DuplicateLabel at) = DuplicateLabel
