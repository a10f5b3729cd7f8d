use Rattle.std.proofs.Common.{take}
use Rattle.dt_live.specs.Placed.Shown.{HasNodes}
use Rattle.dt_live.specs.Placed.Tables.{rows_in}
use Rattle.dt_live.proofs.placed.placed_tree.PlacedTree.show_some.Given as goal

abbrev pub invariant-loop-node : goal.invariant-loop-node
invariant-loop-node g l = HasNodes (rows_in l.self.nodes) (take l.node-index l.nodes) l.shown
