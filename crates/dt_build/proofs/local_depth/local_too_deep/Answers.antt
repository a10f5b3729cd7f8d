use Rattle.std.proofs.Common.{◌||◌, ◌+◌, drop, map, sym, ap, ◌∙◌}
use Rattle.std.specs.List.{list_any}
use Rattle.std.proofs.lemmas.List.{drop_all}
use Rattle.dt_build.specs.Private.FixupSites.{is_deep, site_of}
use Rattle.dt_build.proofs.LocalDepth.{lists-deep}
use Rattle.dt_build.proofs.Sites.{site-known, split}
use Rattle.dt_build.proofs.local_depth.local_too_deep.Goals as goal

pub loop-site-init : goal.loop-site-init
loop-site-init c = ap (list_any is_deep) c.requires.sites.sites

pub is_site_too_deep-requires-clause-place : goal.is_site_too_deep-requires-clause-place
is_site_too_deep-requires-clause-place c = site-known 0 _ c.args.sites.now c.loop-site.site-index c.requires.sites.places c.loop-site-test.true

pub returns-then-is_site_too_deep : goal.returns-then-is_site_too_deep
returns-then-is_site_too_deep c symbols =
    let p = c.args.draft.now in
    let left = drop (c.loop-site.site-index + 1) c.args.sites.now in
    ap (λ b. b || list_any is_deep (map (site_of p) left)) (sym c.if-is_site_too_deep.true ∙ c.is_site_too_deep.ensures)
    ∙ ap (λ ss. list_any is_deep (map (site_of p) ss)) (sym (split c.args.sites.now c.loop-site.site-index c.loop-site-test.true))
    ∙ c.loop-site.invariant ∙ sym (lists-deep symbols p c.requires.ready)

pub loop-site-preserved : goal.loop-site-preserved
loop-site-preserved c =
    let p = c.args.draft.now in
    let left = drop (c.loop-site.site-index + 1) c.args.sites.now in
    ap (λ b. b || list_any is_deep (map (site_of p) left)) (sym c.if-is_site_too_deep.false ∙ c.is_site_too_deep.ensures)
    ∙ ap (λ ss. list_any is_deep (map (site_of p) ss)) (sym (split c.args.sites.now c.loop-site.site-index c.loop-site-test.true))
    ∙ c.loop-site.invariant

pub returns : goal.returns
returns c symbols =
    let p = c.args.draft.now in
    ap (λ ss. list_any is_deep (map (site_of p) ss)) (sym (drop_all c.loop-site.site-index c.args.sites.now c.loop-site-test.false)) ∙ c.loop-site.invariant ∙ sym (lists-deep symbols p c.requires.ready)
