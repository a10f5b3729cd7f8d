use Rattle.std.proofs.Common.{◌≡◌, ◌+◌, ◌-◌, ◌^◌, ◌≤◌, drop, map, min}
use Rattle.dt_build.specs.Private.Made.{made_sites}
use Rattle.dt_build.specs.Private.FixupSites.{site_of, sites_size}
use Rattle.dt_build.proofs.sizes.sites_size.Given as goal

abbrev pub invariant-loop-site : goal.invariant-loop-site
invariant-loop-site l = record {
  fits : l.size ≤ 2 ^ 64 - 1;
  size : min (l.size + sites_size (map (site_of l.draft) (drop l.site-index l.sites))) (2 ^ 64 - 1) ≡ min (sites_size (made_sites l.draft)) (2 ^ 64 - 1);
}
