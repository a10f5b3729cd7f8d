use Rattle.std.proofs.Common.{◌∙◌, ◌+◌, ◌<◌, [], length, get_or, map, drop, sym, ap, subst, arith}
use Rattle.std.proofs.lemmas.List.{get_or_default}
use Rattle.std.specs.Int.{to_be_bytes, w32}
use Rattle.dt_live.specs.declared.live_tree.LiveTree.{LiveTree}
use Rattle.dt_live.specs.Flattened.{Lent, lists}
use Rattle.dt_tree.specs.Steps.{then_do}
use Rattle.dt_source.specs.OverlayMeaning.Shifted.{write_at}
use Rattle.dt_overlay.specs.declared.fixup.taken_sites.TakenSite.{TakenSite}
use Rattle.dt_overlay.specs.Fixup.PatchedOverlay.{patched_lists}
use Rattle.dt_overlay.specs.Fixup.Private.TakenSites.{fixup_taken}
use Rattle.dt_overlay.proofs.FixupLemmas.WritingLaws.{resolve-none, resolve-some, writes, writes-end, writes-more}
use Rattle.dt_overlay.proofs.fixup.writing.write_sites.Goals as goal

-- the place that the code has where there is none
abbrev blank : TakenSite
blank = record { symbol = record { ref_ptr = (0, 0); now = [] }; row = 0; offset = 0; entry = record { property = 0; byte = 0 } }

pub returns-in-Err-clause-written : goal.returns-in-Err-clause-written
returns-in-Err-clause-written c =
    let base = lists c.args.base.now in
    let d = c.args.patched.now.live in
    let all = c.args.sites.now in
    let i = c.loop-site.site-index in
    let below : i < length all = c.loop-site-test.true in
    let o : TakenSite = get_or all i blank in
    let es = (patched_lists c.loop-site.patched).properties in
    c.loop-site.invariant.written ∙ writes-more base d all i o below (get_or_default all i blank o below) es
    ∙ ap (λ r. then_do r (writes base (map (fixup_taken d) (drop (i + 1) all)))) (resolve-none base (fixup_taken d o) es c.in-Err.ensures)

pub write_site-requires : goal.write_site-requires
write_site-requires c =
    let all = c.args.sites.now in
    let i = c.loop-site.site-index in
    let o : TakenSite = get_or all i blank in
    let h = c.requires.inside i blank c.loop-site-test.true in
    record {
      inside = (subst (λ (d : LiveTree Lent). o.row < length d.properties.items) (sym c.loop-site.invariant.live) h.0, omega (arith, h.1, c.loop-site.invariant.lengths o.row));
    }

pub loop-site-preserved : goal.loop-site-preserved
loop-site-preserved c =
    let base = lists c.args.base.now in
    let d = c.args.patched.now.live in
    let all = c.args.sites.now in
    let i = c.loop-site.site-index in
    let below : i < length all = c.loop-site-test.true in
    let o : TakenSite = get_or all i blank in
    let es = (patched_lists c.loop-site.patched).properties in
    let bytes = to_be_bytes w32 c.in-Ok.phandle in
    let rest = map (fixup_taken d) (drop (i + 1) all) in
    record {
      live = c.in_ok-write_site.ensures.live ∙ c.loop-site.invariant.live;
      lengths = λ k. c.in_ok-write_site.ensures.lengths k ∙ c.loop-site.invariant.lengths k;
      last = c.in-Ok.ensures;
      written =
          c.loop-site.invariant.written ∙ writes-more base d all i o below (get_or_default all i blank o below) es
          ∙ ap (λ r. then_do r (writes base rest)) (resolve-some base (fixup_taken d o) es c.in-Ok.phandle c.in-Ok.ensures)
          ∙ ap (writes base rest) (ap (λ (e : LiveTree Lent). write_at (fixup_taken e o).at bytes es) (sym c.loop-site.invariant.live) ∙ sym c.in_ok-write_site.ensures.written);
    }

pub returns-clause-written : goal.returns-clause-written
returns-clause-written c =
    c.loop-site.invariant.written
    ∙ writes-end (lists c.args.base.now) c.args.patched.now.live c.args.sites.now c.loop-site.site-index c.loop-site-test.false (patched_lists c.loop-site.patched).properties
