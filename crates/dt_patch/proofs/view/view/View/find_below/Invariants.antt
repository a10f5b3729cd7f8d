use Rattle.std.proofs.Common.{◌++◌, List, drop, length}
use Rattle.std.specs.List.{slice_split}
use Rattle.dt_tree.specs.NodeData.{NodeData}
use Rattle.dt_tree.specs.Path.{is_slash}
use Rattle.dt_tree.specs.PathMap.{node_at}
use Rattle.dt_blob.specs.Token.{Token}
use Rattle.dt_patch.specs.View.Reaching.{Reached, before_node}
use Rattle.dt_patch.specs.View.Standing.{StandsAt}
use Rattle.dt_patch.proofs.ViewLemmas.Names.{Leads}
use Rattle.dt_patch.proofs.ViewLemmas.Reaches.{Leading}
use Rattle.dt_patch.proofs.view.view.View.find_below.Given as goal

abbrev pub invariant-loop-name : goal.invariant-loop-name
invariant-loop-name l = record {
  leads : (d : NodeData) → StandsAt l.self l.fn.from.at d → Leads l.self l.node.at (drop (length l.yielded) (slice_split is_slash l.names)) (node_at d (slice_split is_slash l.names));
  leading : (d : NodeData) (before : List Token) → StandsAt l.self l.fn.from.at d → Reached l.self l.fn.from.at before
      → Leading l.self l.node.at (drop (length l.yielded) (slice_split is_slash l.names)) (before ++ before_node d (slice_split is_slash l.names));
}
