use Rattle.std.proofs.Common.{◌≡◌, ◌++◌, true, All, map, drop}
use Rattle.dt_tree.specs.Name.{is_name}
use Rattle.dt_live.specs.Flattened.{lists}
use Rattle.dt_overlay.specs.Fixup.PatchedOverlay.{patched_lists}
use Rattle.dt_overlay.specs.Private.Symbols.{symbol_value, symbols_of}
use Rattle.dt_overlay.proofs.SymbolLengths.{symbols_from}
use Rattle.dt_overlay.proofs.symbols.find_symbols.Given as goal

abbrev pub invariant-loop-row : goal.invariant-loop-row
invariant-loop-row l = record {
  named : All (λ s. is_name s.name.now ≡ true) l.symbols.items;
  made : map symbol_value l.symbols.items ++ symbols_from (lists l.base) l.patched l.row (drop l.row l.patched.live.properties.items) ≡ symbols_of (lists l.base) (patched_lists l.patched);
}
