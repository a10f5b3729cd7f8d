use Rattle.std.proofs.Common.{map, take}
use Rattle.dt_source.specs.TreeMeaning.Paths.{same_path}
use Rattle.dt_source.specs.TreeMeaning.Places.{has_place}
use Rattle.dt_live.specs.Placed.PlacedTrees.{label_seen}
use Rattle.dt_live.specs.Placed.Standing.{AreMarked}
use Rattle.dt_live.specs.Placed.Tables.{rows_in}
use Rattle.dt_live.proofs.placed.placed_tree.PlacedTree.ever_labelled.Given as goal

abbrev pub invariant-loop-row : goal.invariant-loop-row
invariant-loop-row g l = AreMarked (λ p. has_place (λ x. same_path p x.path) (map (label_seen (rows_in l.self.nodes)) (take l.row (rows_in l.self.labels)))) l.shown.live l.labelled.items
