use Rattle.std.proofs.Common.{ap, sym}
use Rattle.dt_tree.specs.TreeError.{number_of}
use Rattle.dt_tree.proofs.error.TreeError.number.Goals as goal

pub returns-in-TooDeep : goal.returns-in-TooDeep
returns-in-TooDeep c = sym (ap number_of c.in-TooDeep.is)
