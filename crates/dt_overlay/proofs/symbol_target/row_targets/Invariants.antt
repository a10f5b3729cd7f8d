use Rattle.std.proofs.Common.{◌≡◌, ◌≤◌, length}
use Rattle.dt_live.specs.declared.live_tree.LiveTree.{LiveTree}
use Rattle.dt_live.specs.Flattened.{Lent}
use Rattle.dt_overlay.specs.Fixup.PatchedOverlay.{patched_lists}
use Rattle.dt_source.specs.OverlayMeaning.Shifted.{fragments}
use Rattle.dt_overlay.specs.Private.Fragments.{AreFragments}
use Rattle.dt_overlay.proofs.SymbolRows.{AreFirst, AreLeft}
use Rattle.dt_overlay.proofs.symbol_target.row_targets.Given as goal

abbrev pub invariant-loop-row : goal.invariant-loop-row
invariant-loop-row l = record {
  count : length l.targets.items ≡ l.row;
  few : l.used ≤ l.row;
  left : (base : LiveTree Lent) → AreFragments base l.patched (fragments (patched_lists l.patched)) l.list → AreLeft base l.patched l.list l.row l.used;
  first : (base : LiveTree Lent) → AreFragments base l.patched (fragments (patched_lists l.patched)) l.list → AreFirst base l.patched l.targets.items l.row;
}
