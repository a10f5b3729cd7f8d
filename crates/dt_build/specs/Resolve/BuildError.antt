-- The numbers and names of the errors.
use Rattle.std.specs.Prelude.{ℕ, List, codes}
use Rattle.dt_build.specs.declared.resolve.error.BuildErrorKind.{BuildErrorKind}
use Rattle.dt_build.specs.declared.resolve.error.BuildErrorKind.TheVariants.{NoMemory, UnknownLabel, DuplicateLabel, UnknownPath, BadPhandle, DuplicatePhandle, DuplicateInBody, PathInPlugin, ReservedName, TooDeep}

abbrev pub number_of : BuildErrorKind → ℕ
number_of NoMemory = 0
number_of UnknownLabel = 20
number_of DuplicateLabel = 21
number_of UnknownPath = 22
number_of BadPhandle = 23
number_of DuplicatePhandle = 24
number_of DuplicateInBody = 25
number_of PathInPlugin = 26
number_of ReservedName = 27
number_of TooDeep = 28

abbrev pub name_of : BuildErrorKind → List ℕ
name_of NoMemory = codes "NoMemory"
name_of UnknownLabel = codes "UnknownLabel"
name_of DuplicateLabel = codes "DuplicateLabel"
name_of UnknownPath = codes "UnknownPath"
name_of BadPhandle = codes "BadPhandle"
name_of DuplicatePhandle = codes "DuplicatePhandle"
name_of DuplicateInBody = codes "DuplicateInBody"
name_of PathInPlugin = codes "PathInPlugin"
name_of ReservedName = codes "ReservedName"
name_of TooDeep = codes "TooDeep"
