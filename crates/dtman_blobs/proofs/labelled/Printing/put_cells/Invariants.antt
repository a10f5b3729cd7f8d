use Rattle.std.proofs.Common.{length}
use Rattle.dtman_blobs.proofs.labelled.Printing.put_cells.Given as goal

abbrev pub decreases-loop-part : goal.decreases-loop-part
decreases-loop-part l = length l.seen.rest.now
