use Rattle.std.proofs.Common.{◌≡◌, ◌+◌, drop, map, ap, arith}
use Rattle.std.proofs.lemmas.List.{drop_all}
use Rattle.dt_build.specs.Private.FixupSites.{site_of, site_size, sites_size}
use Rattle.dt_build.proofs.Sites.{site-known, site_at, split}
use Rattle.dt_build.proofs.sizes.sites_size.Goals as goal

pub loop-site-init : goal.loop-site-init
loop-site-init c = record { fits = omega arith; size = omega (arith, ap sites_size c.requires.sites.sites) }

pub size_of_site-requires-clause-place : goal.size_of_site-requires-clause-place
size_of_site-requires-clause-place c = site-known 0 _ c.args.sites.now c.loop-site.site-index c.requires.sites.places c.loop-site-test.true

pub loop-site-preserved : goal.loop-site-preserved
loop-site-preserved c =
    let p = c.args.draft.now in
    let i = c.loop-site.site-index in
    let s = site_at c.args.sites.now c.loop-site.site-index in
    let more : sites_size (map (site_of p) (drop i c.args.sites.now)) ≡ site_size (site_of p s) + sites_size (map (site_of p) (drop (i + 1) c.args.sites.now)) =
    ap (λ ss. sites_size (map (site_of p) ss)) (split c.args.sites.now i c.loop-site-test.true) in
    record {
      fits = omega (arith, c.saturating_add-size.ensures);
      size = omega (arith, more, c.saturating_add-size.ensures, c.size_of_site.ensures, c.loop-site.invariant.size);
    }

pub returns : goal.returns
returns c =
    let p = c.args.draft.now in
    let none : sites_size (map (site_of p) (drop c.loop-site.site-index c.args.sites.now)) ≡ 0 = ap (λ ss. sites_size (map (site_of p) ss)) (drop_all c.loop-site.site-index c.args.sites.now c.loop-site-test.false) in
    omega (arith, none, c.loop-site.invariant.fits, c.loop-site.invariant.size)
