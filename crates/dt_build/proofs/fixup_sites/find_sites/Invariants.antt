use Rattle.std.proofs.Common.{◌≡◌, ◌++◌, true, drop, map}
use Rattle.std.specs.Prelude.{All}
use Rattle.dt_live.specs.Rows.{node_path}
use Rattle.dt_build.specs.Resolve.Targets.{IsKnown, IsToldApart}
use Rattle.dt_build.specs.Private.FixupSites.{AreBetween, all_left, site_of}
use Rattle.dt_build.specs.Private.Made.{all_phandles, made_sites}
use Rattle.dt_build.proofs.fixup_sites.find_sites.Given as goal

abbrev pub invariant-loop-property : goal.invariant-loop-property
invariant-loop-property l = record {
  known : All (IsKnown l.draft.live) l.targets;
  apart : l.draft.asks ≡ true → All (λ x. All (IsToldApart l.draft.live x.node) l.targets) l.draft.in_preorder.properties.items;
  places : AreBetween 0 l.property l.sites.items;
  sites : map (site_of l.draft) l.sites.items ++ all_left l.draft.asks (all_phandles l.draft) (node_path l.draft.live) (drop l.property l.draft.in_preorder.properties.items) l.targets ≡ made_sites l.draft;
}
