use Rattle.std.proofs.Common.{length}
use Rattle.dt_format.proofs.layout.depth.words_of.Given as goal

abbrev pub decreases-bytes : goal.decreases-bytes
decreases-bytes l = length l.left
