use Rattle.std.proofs.Common.{◌∙◌, ◌+◌, ◌<◌, ◌≤◌, [], length, get_or, map, drop, sym, ap}
use Rattle.std.proofs.lemmas.List.{get_or_default, take_all}
use Rattle.dt_live.specs.declared.live_tree.LiveTree.{LiveTree}
use Rattle.dt_live.specs.Flattened.{Lent}
use Rattle.dt_source.specs.OverlayMeaning.Shifted.{take_site}
use Rattle.dt_overlay.specs.declared.fixup.reading.NamedSite.{NamedSite}
use Rattle.dt_overlay.specs.Fixup.Private.Fixing.{fixup_named}
use Rattle.dt_overlay.specs.Fixup.Private.TakenSites.{fixup_taken}
use Rattle.dt_overlay.proofs.FixupLemmas.LocalSteps.{reached-end, reached-fault, reached-more}
use Rattle.dt_overlay.proofs.FixupLemmas.TakenSiteLaws.{inside-kept, inside-more, taken-more, takes, takes-end, takes-more}
use Rattle.dt_overlay.proofs.fixup.taken_sites.take_named_sites.Goals as goal

-- the fixup that the code has where there is none
abbrev plain : NamedSite
plain = record { symbol = record { ref_ptr = (0, 0); now = [] }; site = record { path = record { ref_ptr = (0, 0); now = [] }; name = record { ref_ptr = (0, 0); now = [] }; offset = 0 }; entry = record { property = 0; byte = 0 } }

pub returns-in-Err-clause-step : goal.returns-in-Err-clause-step
returns-in-Err-clause-step c =
    let s = c.args.patched.now in
    let all = c.args.fixups.now in
    let i = c.loop-fixup.fixup-index in
    let below : i < length all = c.loop-fixup-test.true in
    let f : NamedSite = get_or all i plain in
    reached-fault c.in-Err.error (takes (map fixup_named all)) (takes (map fixup_named (drop i all))) (take_site (fixup_named f).at) (takes (map fixup_named (drop (i + 1) all)))
    s c.loop-fixup.patched c.loop-fixup.invariant.reached (takes-more all i f below (get_or_default all i plain f below)) c.in-Err.ensures.step

pub loop-fixup-preserved : goal.loop-fixup-preserved
loop-fixup-preserved c =
    let s = c.args.patched.now in
    let t = c.loop-fixup.patched in
    let u = c.take_named_site.new.patched in
    let all = c.args.fixups.now in
    let i = c.loop-fixup.fixup-index in
    let below : i < length all = c.loop-fixup-test.true in
    let f : NamedSite = get_or all i plain in
    let pushed = c.in_ok-push-in-Ok.ensures.items in
    let os = c.loop-fixup.taken.items in
    let o = c.in-Ok.site in
    record {
      live = c.in-Ok.ensures.live ∙ c.loop-fixup.invariant.live;
      reached =
          reached-more (takes (map fixup_named all)) (takes (map fixup_named (drop i all))) (take_site (fixup_named f).at) (takes (map fixup_named (drop (i + 1) all)))
          s t u c.loop-fixup.invariant.reached (takes-more all i f below (get_or_default all i plain f below)) c.in-Ok.ensures.step;
      taken =
          ap (map (fixup_taken s.live)) pushed
          ∙ taken-more s.live os o all i f below (get_or_default all i plain f below) c.loop-fixup.invariant.taken (ap (λ (d : LiveTree Lent). fixup_taken d o) (sym c.loop-fixup.invariant.live) ∙ c.in-Ok.ensures.taken);
      inside = rw pushed (inside-more u os o (inside-kept t u c.in-Ok.ensures.live c.in-Ok.ensures.values os c.loop-fixup.invariant.inside) c.in-Ok.ensures.inside);
    }

pub returns-clause-step : goal.returns-clause-step
returns-clause-step c =
    let all = c.args.fixups.now in
    let i = c.loop-fixup.fixup-index in
    let past : length all ≤ i = c.loop-fixup-test.false in
    reached-end (takes (map fixup_named all)) (takes (map fixup_named (drop i all))) c.args.patched.now c.loop-fixup.patched c.loop-fixup.invariant.reached (takes-end all i past)

pub returns-clause-taken : goal.returns-clause-taken
returns-clause-taken c = c.loop-fixup.invariant.taken ∙ ap (map fixup_named) (take_all c.loop-fixup.fixup-index c.args.fixups.now c.loop-fixup-test.false)
