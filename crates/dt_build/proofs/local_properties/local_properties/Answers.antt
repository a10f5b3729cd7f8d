use Rattle.std.proofs.Common.{◌≡◌, ◌+◌, ◌-◌, ℕ, List, drop, length, map, sym, ap, ap₂, ◌∙◌, subst, arith}
use Rattle.std.proofs.lemmas.List.{drop_all}
use Rattle.dt_source.specs.TreeMeaning.Fixups.{local_fixups}
use Rattle.dt_build.specs.declared.fixup_sites.FixupSite.{FixupSite}
use Rattle.dt_build.specs.declared.local_properties.LocalFixup.{LocalFixup}
use Rattle.dt_build.specs.Private.FixupSites.{AreBetween, site_of}
use Rattle.dt_build.specs.Private.LocalFixups.{AreBelow, local_definitions, places}
use Rattle.dt_build.proofs.LocalPuts.{all-below, below-more}
use Rattle.dt_build.proofs.Sites.{site_at, split}
use Rattle.dt_build.proofs.local_properties.local_properties.Goals as goal

pub loop-site-init : goal.loop-site-init
loop-site-init c =
    let p = c.args.draft.now in
    let none = c.new-locals.ensures.items in
    record {
      places = (0, omega arith, subst (λ (xs : List LocalFixup). AreBelow 0 (places xs)) (sym none) tt, c.requires.sites.places);
      all = ap₂ (λ xs (ls : List LocalFixup). local_fixups xs (local_definitions p ls)) c.requires.sites.sites none;
    }

-- what is left begins with the site that is put
pub put_local-requires : goal.put_local-requires
put_local-requires c =
    let n = length c.args.draft.now.in_preorder.properties.items in
    let i = c.loop-site.site-index in
    let s = site_at c.args.sites.now c.loop-site.site-index in
    let inv = c.loop-site.invariant.places in
    let first = subst (AreBetween (inv.0 - 1) n) (split c.args.sites.now i c.loop-site-test.true) inv.3 in
    record { places = below-more inv.0 (s.property + 1) (places c.loop-site.locals.items) (omega (arith, first.0)) inv.2 }

pub loop-site-preserved : goal.loop-site-preserved
loop-site-preserved c =
    let p = c.args.draft.now in
    let n = length p.in_preorder.properties.items in
    let i = c.loop-site.site-index in
    let s = site_at c.args.sites.now c.loop-site.site-index in
    let inv = c.loop-site.invariant.places in
    let cut = split c.args.sites.now i c.loop-site-test.true in
    let first = subst (AreBetween (inv.0 - 1) n) cut inv.3 in
    let same : s.property ≡ s.property + 1 - 1 = omega arith in
    record {
      places = (s.property + 1, omega (arith, first.1), c.in_ok-put_local.ensures.places, subst (λ (m : ℕ). AreBetween m n (drop (i + 1) c.args.sites.now)) same first.2);
      all = ap (local_fixups (map (site_of p) (drop (i + 1) c.args.sites.now))) (c.in_ok-put_local.ensures.all p c.requires.ready first.1)
          ∙ ap (λ (ss : List FixupSite). local_fixups (map (site_of p) ss) (local_definitions p c.loop-site.locals.items)) (sym cut) ∙ c.loop-site.invariant.all;
    }

pub returns-clause-all : goal.returns-clause-all
returns-clause-all c =
    let p = c.args.draft.now in
    ap (λ (ss : List FixupSite). local_fixups (map (site_of p) ss) (local_definitions p c.loop-site.locals.items)) (sym (drop_all c.loop-site.site-index c.args.sites.now c.loop-site-test.false)) ∙ c.loop-site.invariant.all

pub returns-clause-places : goal.returns-clause-places
returns-clause-places c =
    let inv = c.loop-site.invariant.places in
    all-below inv.0 (length c.args.draft.now.in_preorder.properties.items) c.loop-site.locals.items inv.1 inv.2
