use Rattle.std.proofs.Common.{◌≡◌, ◌-◌, ◌^◌, map, min, take}
use Rattle.dt_source.specs.TreeMeaning.Resolved.{symbol}
use Rattle.dt_live.specs.Rows.{is_standing, node_path, worn}
use Rattle.dt_live.specs.Builder.Sizes.{size_in}
use Rattle.dt_build.proofs.symbols.symbols_size.Given as goal

abbrev pub invariant-loop-label : goal.invariant-loop-label
invariant-loop-label l = l.size ≡ min (size_in (map symbol (worn (node_path l.live) (is_standing l.live) (take l.label-index l.label-items)))) (2 ^ 64 - 1)
