use Rattle.std.proofs.Common.{◌≡◌, drop, map}
use Rattle.std.specs.List.{list_any}
use Rattle.dt_build.specs.Private.Made.{made_sites}
use Rattle.dt_build.specs.Private.FixupSites.{is_deep, site_of}
use Rattle.dt_build.proofs.local_depth.local_too_deep.Given as goal

abbrev pub invariant-loop-site : goal.invariant-loop-site
invariant-loop-site l = list_any is_deep (map (site_of l.draft) (drop l.site-index l.sites)) ≡ list_any is_deep (made_sites l.draft)
