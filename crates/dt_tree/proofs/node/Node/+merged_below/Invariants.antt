use Rattle.std.proofs.Common.{length}
use Rattle.dt_tree.specs.Private.Edits.{names_in}
use Rattle.dt_tree.proofs.node.Node.+merged_below.Given as goal

abbrev pub decreases-merged_below : goal.decreases-merged_below
decreases-merged_below l = length (names_in l.names)
