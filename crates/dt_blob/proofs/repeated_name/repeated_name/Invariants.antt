use Rattle.std.proofs.Common.{length}
use Rattle.dt_blob.proofs.repeated_name.repeated_name.Given as goal

abbrev pub decreases-tokens : goal.decreases-tokens
decreases-tokens l = length l.rest
