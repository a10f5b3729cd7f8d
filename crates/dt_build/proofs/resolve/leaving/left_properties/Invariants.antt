use Rattle.std.proofs.Common.{◌≡◌, ◌++◌, take, drop}
use Rattle.std.specs.Prelude.{filter}
use Rattle.dt_live.specs.Rows.{is_standing}
use Rattle.dt_build.specs.Resolve.Private.Gone.{left_targets}
use Rattle.dt_build.proofs.resolve.leaving.left_properties.Given as goal

abbrev pub invariant-loop-property : goal.invariant-loop-property
invariant-loop-property l = record {
  properties : l.left.properties.items ≡ filter (λ x. is_standing l.live x.node) (take l.property-index l.properties);
  targets : l.left.targets.items ++ left_targets (is_standing l.live) (drop l.property-index l.properties) l.behind ≡ left_targets (is_standing l.live) l.properties l.targets;
}
