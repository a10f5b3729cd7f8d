use Rattle.std.proofs.Common.{map, reverse, take}
use Rattle.dt_source.specs.TreeMeaning.Paths.{is_listed}
use Rattle.dt_live.specs.Placed.PlacedTrees.{node_path}
use Rattle.dt_live.specs.Placed.Standing.{AreMarked}
use Rattle.dt_live.proofs.placed.placed_tree.PlacedTree.marked.Given as goal

abbrev pub invariant-loop-node : goal.invariant-loop-node
invariant-loop-node g l = AreMarked (λ p. is_listed p (map (node_path l.self) (reverse (take l.node-index l.self.marks.items)))) l.shown.live l.marked.items
