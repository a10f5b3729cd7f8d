use Rattle.std.proofs.Common.{◌≡◌, ◌+◌, ◌++◌, ◌≤◌, drop, map}
use Rattle.dt_source.specs.TreeMeaning.Fixups.{sites_in}
use Rattle.dt_live.specs.Rows.{node_path}
use Rattle.dt_build.specs.Private.FixupSites.{AreBetween, key_at, site_of}
use Rattle.dt_build.specs.Private.Made.{all_phandles}
use Rattle.dt_build.specs.Private.Values.{founds_of}
use Rattle.dt_build.proofs.fixup_sites.put_sites.Given as goal

abbrev pub invariant-loop-part : goal.invariant-loop-part
invariant-loop-part l = record {
  few : l.used ≤ l.part-index;
  places : AreBetween 0 (l.property + 1) l.sites.items;
  sites : map (site_of l.draft) l.sites.items ++ sites_in (all_phandles l.draft) (key_at l.draft l.property).path (key_at l.draft l.property).name l.offset (founds_of (node_path l.draft.live) (drop l.part-index l.value) (drop l.used l.targets))
      ≡ map (site_of l.draft) l.fn.sites.items ++ sites_in (all_phandles l.draft) (key_at l.draft l.property).path (key_at l.draft l.property).name 0 (founds_of (node_path l.draft.live) l.value l.targets);
}
