-- A label that isn't given stops the edits.
use Rattle.dt_live.specs.declared.labels.LabelError.{LabelError}
use Rattle.dt_live.specs.declared.labels.LabelError.TheVariants as labels
use Rattle.dt_build.specs.declared.edit.error.EditErrorKind.{EditErrorKind}
use Rattle.dt_build.specs.declared.edit.error.EditErrorKind.TheVariants.{NoMemory, DuplicateLabel}

abbrev pub edit_error : LabelError → EditErrorKind
edit_error labels.NoMemory = NoMemory
edit_error labels.DuplicateLabel = DuplicateLabel
