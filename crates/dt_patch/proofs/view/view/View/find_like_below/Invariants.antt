use Rattle.std.proofs.Common.{List, drop, length}
use Rattle.std.specs.List.{slice_split}
use Rattle.dt_tree.specs.NodeData.{NodeData}
use Rattle.dt_tree.specs.Path.{is_slash}
use Rattle.dt_patch.specs.View.Alike.{node_like}
use Rattle.dt_patch.specs.View.Standing.{StandsAt}
use Rattle.dt_patch.proofs.ViewLemmas.Alikes.{LeadsAlike}
use Rattle.dt_patch.proofs.view.view.View.find_like_below.Given as goal

abbrev pub invariant-loop-name : goal.invariant-loop-name
invariant-loop-name l = (d : NodeData) → StandsAt l.self l.fn.from.at d → LeadsAlike l.self l.node.at (drop (length l.yielded) (slice_split is_slash l.names)) (node_like d (slice_split is_slash l.names))
