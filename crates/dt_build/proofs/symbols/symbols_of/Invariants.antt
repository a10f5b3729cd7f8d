use Rattle.std.proofs.Common.{◌≡◌, ◌∷◌, [], map, take}
use Rattle.dt_source.specs.TreeMeaning.Names.{symbols_name}
use Rattle.dt_source.specs.TreeMeaning.Resolved.{symbol}
use Rattle.dt_live.specs.Rows.{is_standing, node_path, worn}
use Rattle.dt_live.specs.Builder.Lists.{defined_at}
use Rattle.dt_build.proofs.symbols.symbols_of.Given as goal

abbrev pub invariant-loop-row : goal.invariant-loop-row
invariant-loop-row l =
    defined_at (symbols_name ∷ []) l.symbols.items ≡ map symbol (worn (node_path l.live) (is_standing l.live) (take l.row-index l.row-items))
