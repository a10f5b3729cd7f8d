use Rattle.std.proofs.Common.{◌≡◌, ◌≤◌, false, [], map, drop}
use Rattle.dt_source.specs.Tree.{item_view}
use Rattle.dt_source.specs.TreeMeaning.DtcEdits.{nothing}
use Rattle.dt_source.specs.TreeMeaning.DtcStatements.{dtc_items}
use Rattle.dt_live.specs.Placed.PlacedTrees.{IsPlacedTree}
use Rattle.dt_live.specs.Placed.Tables.{rows_in}
use Rattle.dt_build.specs.Edit.DtcFaultPlaces.{dtc_items_place}
use Rattle.dt_build.specs.Edit.Private.DtcEdited.{placed_of}
use Rattle.dt_build.specs.Edit.Private.Ready.{IsReady}
use Rattle.dt_build.proofs.EditLemmas.DtcItems.{IsReached}
use Rattle.dt_build.proofs.edit.dtc_items.edit_dtc_items.Given as goal

abbrev pub invariant-loop-item : goal.invariant-loop-item
invariant-loop-item l = record {
  sound : IsPlacedTree l.placed;
  empty : l.placed.begun ≡ false → rows_in l.placed.nodes ≡ [];
  reached : IsReached l.plugin (placed_of l.placed);
  count : l.placed.fragments ≤ l.extensions;
  few : l.extensions ≤ l.item-index;
  ready : IsReady l.fragments l.extensions (map item_view (drop l.item-index l.items));
  rest : dtc_items l.plugin (map item_view (drop l.item-index l.items)) (placed_of l.placed)
      ≡ dtc_items l.plugin (map item_view l.items) nothing;
  place : dtc_items_place l.plugin (drop l.item-index l.items) (placed_of l.placed) ≡ dtc_items_place l.plugin l.items nothing;
}
