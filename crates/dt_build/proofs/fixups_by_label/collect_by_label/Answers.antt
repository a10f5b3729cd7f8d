use Rattle.std.proofs.Common.{◌+◌, drop, map, sym, ap, ◌∙◌}
use Rattle.std.proofs.lemmas.List.{drop_all}
use Rattle.dt_source.specs.TreeMeaning.Fixups.{fixups}
use Rattle.dt_build.specs.Private.ByLabel.{given}
use Rattle.dt_build.specs.Private.FixupSites.{site_of}
use Rattle.dt_build.proofs.Sites.{site-known, split}
use Rattle.dt_build.proofs.fixups_by_label.collect_by_label.Goals as goal

pub put_text-requires-clause-place : goal.put_text-requires-clause-place
put_text-requires-clause-place c = site-known 0 _ c.args.sites.now c.loop-site.site-index c.requires.sites.places c.loop-site-test.true

pub loop-site-preserved : goal.loop-site-preserved
loop-site-preserved c =
    let p = c.args.draft.now in
    let i = c.loop-site.site-index in
    let old = given c.loop-site.by_label.labels.items in
    record {
      indexed = c.in_ok-put_text.ensures.indexed;
      given = ap (fixups (map (site_of p) (drop (i + 1) c.args.sites.now))) c.in_ok-put_text.ensures.given
          ∙ ap (λ ss. fixups (map (site_of p) ss) old) (sym (split c.args.sites.now i c.loop-site-test.true)) ∙ c.loop-site.invariant.given;
    }

pub returns : goal.returns
returns c =
    let p = c.args.draft.now in
    let made = given c.loop-site.by_label.labels.items in
    ap (λ ss. fixups (map (site_of p) ss) made) (sym (drop_all c.loop-site.site-index c.args.sites.now c.loop-site-test.false)) ∙ c.loop-site.invariant.given
