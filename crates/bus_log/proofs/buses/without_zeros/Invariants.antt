use Rattle.std.proofs.Common.{length}
use Rattle.bus_log.proofs.buses.without_zeros.Given as goal

abbrev pub decreases-loop-less : goal.decreases-loop-less
decreases-loop-less l = length l.rest
