use Rattle.std.proofs.Common.{◌≡◌, drop, map}
use Rattle.dt_source.specs.TreeMeaning.DtcEdits.{with_labels_at}
use Rattle.dt_live.specs.Placed.PlacedTrees.{IsPlacedTree, node_path}
use Rattle.dt_live.specs.Placed.PlacedEdits.{HasSameNodes}
use Rattle.dt_build.specs.Edit.Private.DtcEdited.{placed_of}
use Rattle.dt_build.proofs.edit.dtc_child.give_labels.Given as goal

abbrev pub invariant-loop-label : goal.invariant-loop-label
invariant-loop-label l = record {
  sound : IsPlacedTree l.placed;
  nodes : HasSameNodes l.fn.placed l.placed;
  begun : l.placed.begun ≡ l.fn.placed.begun;
  rest : with_labels_at (map (λ x. x.now) (drop l.label-index l.labels)) (node_path l.fn.placed l.node) (placed_of l.placed)
      ≡ with_labels_at (map (λ x. x.now) l.labels) (node_path l.fn.placed l.node) (placed_of l.fn.placed);
}
