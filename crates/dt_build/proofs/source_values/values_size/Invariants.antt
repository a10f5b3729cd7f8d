use Rattle.std.proofs.Common.{◌≡◌, ◌+◌, ◌-◌, ◌^◌, ◌≤◌, drop, min}
use Rattle.std.specs.Prelude.{All}
use Rattle.dt_live.specs.Rows.{node_path}
use Rattle.dt_live.specs.Builder.Sizes.{size_in}
use Rattle.dt_build.specs.Resolve.Targets.{IsKnown}
use Rattle.dt_build.specs.Private.Made.{all_phandles, plain_properties}
use Rattle.dt_build.proofs.SourceSteps.{made}
use Rattle.dt_build.proofs.source_values.values_size.Given as goal

abbrev pub invariant-loop-node_property : goal.invariant-loop-node_property
invariant-loop-node_property l = record {
  known : All (IsKnown l.draft.live) l.left;
  fits : l.size ≤ 2 ^ 64 - 1;
  size : min (l.size + size_in (made (all_phandles l.draft) (node_path l.draft.live) (drop l.node_property-index l.draft.in_preorder.properties.items) l.left)) (2 ^ 64 - 1)
      ≡ min (size_in (plain_properties l.draft)) (2 ^ 64 - 1);
}
