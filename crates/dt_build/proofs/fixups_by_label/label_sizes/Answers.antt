use Rattle.dt_build.proofs.Sites.{site-known}
use Rattle.dt_build.proofs.fixups_by_label.label_sizes.Goals as goal

pub count_site-requires-clause-place : goal.count_site-requires-clause-place
count_site-requires-clause-place c = site-known 0 _ c.args.sites.now c.loop-site.site-index c.requires.sites.places c.loop-site-test.true
