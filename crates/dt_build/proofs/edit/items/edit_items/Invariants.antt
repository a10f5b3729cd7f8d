use Rattle.std.proofs.Common.{◌≡◌, ◌≤◌, map, drop}
use Rattle.dt_source.specs.Tree.{item_view}
use Rattle.dt_source.specs.TreeMeaning.Edits.{counted}
use Rattle.dt_source.specs.TreeMeaning.Statements.{after_items}
use Rattle.dt_live.specs.Rows.{IsLiveTree, IsStamped}
use Rattle.dt_build.specs.Edit.FaultPlaces.{items_place}
use Rattle.dt_build.specs.Edit.Private.Made.{IsExact}
use Rattle.dt_build.specs.Edit.Private.Ready.{IsReady}
use Rattle.dt_build.specs.Edit.Said.{tree_of}
use Rattle.dt_build.proofs.edit.items.edit_items.Given as goal

abbrev pub invariant-loop-item : goal.invariant-loop-item
invariant-loop-item l = record {
  sound : IsLiveTree l.live;
  stamped : IsStamped l.live;
  exact : IsExact l.made;
  count : l.made.count ≤ l.extensions;
  ready : IsReady l.fragments l.extensions (map item_view (drop l.item-index l.items));
  rest : after_items l.plugin (map item_view (drop l.item-index l.items)) (counted l.made.count (tree_of l.live))
      ≡ after_items l.plugin (map item_view l.items) (tree_of l.fn.live);
  place : items_place l.plugin (drop l.item-index l.items) (counted l.made.count (tree_of l.live)) ≡ items_place l.plugin l.items (tree_of l.fn.live);
}
