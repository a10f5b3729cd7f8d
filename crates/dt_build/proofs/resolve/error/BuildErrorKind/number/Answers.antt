use Rattle.std.proofs.Common.{ap, sym}
use Rattle.dt_build.specs.Resolve.BuildError.{number_of}
use Rattle.dt_build.proofs.resolve.error.BuildErrorKind.number.Goals as goal

pub returns-in-BadPhandle : goal.returns-in-BadPhandle
returns-in-BadPhandle c = sym (ap number_of c.in-BadPhandle.is)
