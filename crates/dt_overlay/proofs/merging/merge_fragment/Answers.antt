-- Where there is no target, nothing else is asked.
use Rattle.std.proofs.Common.{rules}
use Rattle.dt_overlay.proofs.merging.merge_fragment.Goals as goal

pub returns-in-None-clause-merged : goal.returns-in-None-clause-merged
returns-in-None-clause-merged c = search rules
