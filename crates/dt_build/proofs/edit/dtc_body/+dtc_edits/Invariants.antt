use Rattle.std.proofs.Common.{◌≡◌, ◌+◌, ◌-◌, ◌*◌, drop}
use Rattle.dt_tree.specs.declared.limits.TheConstants.{MAX_DEPTH}
use Rattle.dt_source.specs.Tree.{views}
use Rattle.dt_source.specs.TreeMeaning.DtcStatements.{dtc_body}
use Rattle.dt_live.specs.Placed.PlacedTrees.{node_path}
use Rattle.dt_build.specs.Edit.DtcFaultPlaces.{dtc_place_in}
use Rattle.dt_build.specs.Edit.Private.DtcEdited.{IsDtcEdited, placed_of}
use Rattle.dt_build.proofs.edit.dtc_body.+dtc_edits.Given as goal

abbrev pub invariant-edit_dtc_body-loop-statement : goal.invariant-edit_dtc_body-loop-statement
invariant-edit_dtc_body-loop-statement l = record {
  edited : IsDtcEdited l.first l.node l.fn.placed l.placed;
  rest : dtc_body (views (drop l.statement-index l.body)) l.first (node_path l.fn.placed l.node) (placed_of l.placed)
      ≡ dtc_body (views l.body) l.first (node_path l.fn.placed l.node) (placed_of l.fn.placed);
  place : dtc_place_in (drop l.statement-index l.body) l.first (node_path l.fn.placed l.node) (placed_of l.placed)
      ≡ dtc_place_in l.body l.first (node_path l.fn.placed l.node) (placed_of l.fn.placed);
}

-- each body is one level deeper, down to MAX_DEPTH
abbrev pub decreases-edit_dtc : goal.decreases-edit_dtc
decreases-edit_dtc l = (MAX_DEPTH - l.depth) * 3 + 1

abbrev pub decreases-edit_dtc_child : goal.decreases-edit_dtc_child
decreases-edit_dtc_child l = (MAX_DEPTH - l.depth) * 3

abbrev pub decreases-edit_dtc_body : goal.decreases-edit_dtc_body
decreases-edit_dtc_body l = (MAX_DEPTH - l.depth) * 3 + 2
