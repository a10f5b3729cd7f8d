use Rattle.std.proofs.Common.{ap, sym}
use Rattle.dt_source.specs.SourceError.{number_of}
use Rattle.dt_source.proofs.error.SourceErrorKind.number.Goals as goal

pub returns-in-TooDeep : goal.returns-in-TooDeep
returns-in-TooDeep c = sym (ap number_of c.in-TooDeep.is)
