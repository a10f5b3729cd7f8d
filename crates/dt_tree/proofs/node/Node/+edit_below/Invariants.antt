use Rattle.std.proofs.Common.{length}
use Rattle.dt_tree.specs.Private.Edits.{names_in}
use Rattle.dt_tree.proofs.node.Node.+edit_below.Given as goal

abbrev pub decreases-edit_below : goal.decreases-edit_below
decreases-edit_below l = length (names_in l.names)
