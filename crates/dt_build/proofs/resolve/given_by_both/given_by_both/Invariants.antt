use Rattle.std.proofs.Common.{◌≡◌, [], drop}
use Rattle.std.specs.Prelude.{All}
use Rattle.dt_build.specs.Resolve.Private.GivenByBoth.{AreNumbers, given_all}
use Rattle.dt_build.specs.Resolve.Private.Wanted.{phandles_of}
use Rattle.dt_build.specs.Resolve.Targets.{IsThere}
use Rattle.dt_build.proofs.resolve.given_by_both.given_by_both.Given as goal

abbrev pub invariant-loop-property : goal.invariant-loop-property
invariant-loop-property l = record {
  numbers : AreNumbers l.live.nodes.items l.numbers;
  targets : All (IsThere l.live) l.left;
  rest : given_all l.live (drop l.property-index l.properties) l.left (phandles_of l.live.nodes.items l.numbers.given) ≡ given_all l.live l.properties l.targets [];
}
