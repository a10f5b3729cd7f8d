use Rattle.std.proofs.Common.{◌≡◌, ◌-◌, ◌≤◌, ℕ, [], drop, length, map}
use Rattle.dt_source.specs.TreeMeaning.Fixups.{local_fixups}
use Rattle.dt_build.specs.Private.Made.{made_sites}
use Rattle.dt_build.specs.Private.FixupSites.{AreBetween, site_of}
use Rattle.dt_build.specs.Private.LocalFixups.{AreBelow, local_definitions, places}
use Rattle.dt_build.proofs.local_properties.local_properties.Given as goal

abbrev pub invariant-loop-site : goal.invariant-loop-site
invariant-loop-site l = record {
  places : (m : ℕ) × (m ≤ length l.draft.in_preorder.properties.items) × AreBelow m (places l.locals.items) × AreBetween (m - 1) (length l.draft.in_preorder.properties.items) (drop l.site-index l.sites);
  all : local_fixups (map (site_of l.draft) (drop l.site-index l.sites)) (local_definitions l.draft l.locals.items) ≡ local_fixups (made_sites l.draft) [];
}
