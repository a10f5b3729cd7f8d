use Rattle.std.proofs.Common.{◌≡◌, true, [], drop, map}
use Rattle.dt_live.specs.ByRow.{has_all_rows}
use Rattle.dt_live.specs.Rows.{IsLiveTree, state_of}
use Rattle.dt_live.specs.Flattened.{lists}
use Rattle.dt_overlay.specs.Private.Symbols.{symbol_value, with_all}
use Rattle.dt_overlay.proofs.Lawful.{IsLawful}
use Rattle.dt_overlay.proofs.symbols.put_symbols.Given as goal

abbrev pub invariant-loop-symbol : goal.invariant-loop-symbol
invariant-loop-symbol l = record {
  sound : IsLiveTree l.live;
  rows : has_all_rows l.live ≡ true;
  labels : (state_of l.live).labels ≡ [];
  lawful : IsLawful (lists l.live);
  rest : with_all (map symbol_value (drop l.symbol-index l.symbols)) (lists l.live) ≡ with_all (map symbol_value l.symbols) (lists l.fn.live);
}
