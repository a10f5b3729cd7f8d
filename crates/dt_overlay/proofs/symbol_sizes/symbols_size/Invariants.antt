use Rattle.std.proofs.Common.{◌≡◌, ◌+◌, ◌-◌, ◌^◌, ◌≤◌, drop, min}
use Rattle.dt_live.specs.Builder.Sizes.{size_in}
use Rattle.dt_live.specs.Flattened.{lists}
use Rattle.dt_overlay.specs.Fixup.PatchedOverlay.{patched_lists}
use Rattle.dt_overlay.specs.Private.Symbols.{symbols_of}
use Rattle.dt_overlay.proofs.SymbolLengths.{symbols_from}
use Rattle.dt_overlay.proofs.symbol_sizes.symbols_size.Given as goal

abbrev pub invariant-loop-row : goal.invariant-loop-row
invariant-loop-row l = record {
  fits : l.size ≤ 2 ^ 64 - 1;
  size : min (l.size + size_in (symbols_from (lists l.base) l.patched l.row (drop l.row l.patched.live.properties.items))) (2 ^ 64 - 1) ≡ min (size_in (symbols_of (lists l.base) (patched_lists l.patched))) (2 ^ 64 - 1);
}
