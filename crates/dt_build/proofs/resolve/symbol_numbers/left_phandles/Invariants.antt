use Rattle.std.proofs.Common.{◌≡◌, take}
use Rattle.std.specs.Prelude.{filter}
use Rattle.dt_live.specs.Rows.{is_standing}
use Rattle.dt_build.specs.Resolve.NodePhandles.{AreStanding}
use Rattle.dt_build.specs.Resolve.Private.Wanted.{HasTaken}
use Rattle.dt_build.proofs.resolve.symbol_numbers.left_phandles.Given as goal

abbrev pub invariant-loop-one : goal.invariant-loop-one
invariant-loop-one l = record {
  phandles : l.left.phandles.items ≡ filter (λ x. is_standing l.live x.node) (take l.one-index l.phandles);
  owners : AreStanding l.live.nodes.items l.left.phandles.items;
  taken : HasTaken l.live.nodes.items l.left;
}
