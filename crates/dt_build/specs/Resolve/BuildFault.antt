-- What each error says of the meaning; want of memory says nothing of it. Where an error stands, `BuildPlaces` says.
use Rattle.std.specs.Prelude.{◌≡◌, Result, Err}
use Rattle.dt_source.specs.TreeMeaning.Statements.{Fault}
use Rattle.dt_source.specs.TreeMeaning.Statements as meaning
use Rattle.dt_build.specs.declared.edit.error.EditErrorKind.{EditErrorKind}
use Rattle.dt_build.specs.declared.edit.error.EditErrorKind.TheVariants as edits
use Rattle.dt_build.specs.declared.resolve.error.BuildErrorKind.{BuildErrorKind}
use Rattle.dt_build.specs.declared.resolve.error.BuildErrorKind.TheVariants.{NoMemory, UnknownLabel, DuplicateLabel, UnknownPath, BadPhandle, DuplicatePhandle, DuplicateInBody, PathInPlugin, ReservedName, TooDeep}

abbrev pub IsFault : {A : Type 0} → BuildErrorKind → Result A Fault → Type 0
IsFault NoMemory r = Unit {0}
IsFault UnknownLabel r = r ≡ Err meaning.UnknownLabel
IsFault DuplicateLabel r = r ≡ Err meaning.DuplicateLabel
IsFault UnknownPath r = r ≡ Err meaning.UnknownPath
IsFault BadPhandle r = r ≡ Err meaning.BadPhandle
IsFault DuplicatePhandle r = r ≡ Err meaning.DuplicatePhandle
IsFault DuplicateInBody r = r ≡ Err meaning.DuplicateInBody
IsFault PathInPlugin r = r ≡ Err meaning.PathInPlugin
IsFault ReservedName r = r ≡ Err meaning.ReservedName
IsFault TooDeep r = r ≡ Err meaning.TooDeep

-- an edit that is refused stops the build
abbrev pub build_error : EditErrorKind → BuildErrorKind
build_error edits.NoMemory = NoMemory
build_error edits.UnknownLabel = UnknownLabel
build_error edits.DuplicateLabel = DuplicateLabel
build_error edits.UnknownPath = UnknownPath
build_error edits.DuplicateInBody = DuplicateInBody
build_error edits.ReservedName = ReservedName
build_error edits.TooDeep = TooDeep
