use Rattle.std.proofs.Common.{◌≡◌, map, take}
use Rattle.dt_live.specs.Rows.{state_of}
use Rattle.dt_live.specs.Placed.Standing.{HasNodesOf, label_of}
use Rattle.dt_live.proofs.placed.placed_tree.PlacedTree.show_words.Given as goal

abbrev pub invariant-loop-row : goal.invariant-loop-row
invariant-loop-row g l = record {
  shown : HasNodesOf l.self l.shown;
  labels : (state_of l.shown.live).labels ≡ map (label_of l.self) (take l.row-index l.rows);
  properties : (state_of l.shown.live).properties ≡ (state_of l.fn.shown.live).properties;
}
