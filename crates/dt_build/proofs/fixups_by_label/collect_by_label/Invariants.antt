use Rattle.std.proofs.Common.{◌≡◌, [], drop, map}
use Rattle.dt_source.specs.TreeMeaning.Fixups.{fixups}
use Rattle.dt_build.specs.Private.ByLabel.{AreIndexed, given}
use Rattle.dt_build.specs.Private.Made.{made_sites}
use Rattle.dt_build.specs.Private.FixupSites.{site_of}
use Rattle.dt_build.proofs.fixups_by_label.collect_by_label.Given as goal

abbrev pub invariant-loop-site : goal.invariant-loop-site
invariant-loop-site l = record {
  indexed : AreIndexed l.by_label;
  given : fixups (map (site_of l.draft) (drop l.site-index l.sites)) (given l.by_label.labels.items) ≡ fixups (made_sites l.draft) [];
}
