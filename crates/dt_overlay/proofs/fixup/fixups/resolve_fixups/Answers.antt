use Rattle.std.proofs.Common.{◌≡◌, ◌∙◌, ◌++◌, List, Ok, map, sym, ap, ap₂, subst}
use Rattle.std.specs.Prelude.{MatchResult, Result}
use Rattle.std.specs.List.{filter}
use Rattle.dt_live.specs.declared.live_tree.LiveTree.{LiveTree}
use Rattle.dt_live.specs.Flattened.{Lent, lists}
use Rattle.dt_source.specs.OverlayMeaning.Fault.{Fault}
use Rattle.dt_source.specs.OverlayMeaning.Shifted.{Fixup, Value, is_fixups}
use Rattle.dt_overlay.specs.Fixup.OverlayFault.{IsFault}
use Rattle.dt_overlay.specs.Fixup.PatchedOverlay.{patched_lists}
use Rattle.dt_overlay.specs.Fixup.Private.Fixing.{fixup_named, fixups_of, gathered}
use Rattle.dt_overlay.specs.Fixup.Private.TakenSites.{fixup_taken}
use Rattle.dt_overlay.proofs.FixupLemmas.TakenSiteLaws.{takes}
use Rattle.dt_overlay.proofs.FixupLemmas.WritingLaws.{fixups-unread, fixups-untaken, fixups-written, writes}
use Rattle.dt_overlay.proofs.fixup.fixups.resolve_fixups.Goals as goal

pub returns-clause-fixups : goal.returns-clause-fixups
returns-clause-fixups c = λ x at.
    let s = c.args.patched.now in
    let t = c.take_named_sites.new.patched in
    let u = c.write_sites.new.patched in
    let base = lists c.args.base.now in
    let es = filter is_fixups (lists s.live).properties in
    let fs = c.in_default.ensures.0 in
    let read : gathered es ≡ Ok fs = sym (ap (λ (d : LiveTree Lent). gathered (fixups_of d)) c.live.ensures.tree) ∙ c.in_default.ensures.1 in
    let found : map fixup_named c.read_fixups.new.found.items ≡ fs = c.in_default.ensures.2 ∙ ap (λ xs. map fixup_named xs ++ fs) c.new-found.ensures.items in
    let lent : fs ≡ map fixup_named c.deref.result.now = sym found ∙ ap (map fixup_named) (sym c.deref.ensures.value) in
    let step = c.in_default-take_named_sites.ensures.step x at in
    let took = ap (λ gs. takes gs x) lent ∙ step.1 in
    let same : fs ≡ map (fixup_taken t.live) c.deref-2.result.now =
    lent ∙ sym c.in_default-take_named_sites.ensures.taken ∙ ap (λ (d : LiveTree Lent). map (fixup_taken d) c.take_named_sites.new.taken.items) (sym c.in_default-take_named_sites.ensures.live)
    ∙ ap (map (fixup_taken t.live)) (sym c.deref-2.ensures.value) in
    let total = fixups-written base es x step.0 fs read took ∙ ap₂ (λ gs vs. writes base gs vs) same (step.2).properties in
    subst (λ (z : Result (List Value) Fault). MatchResult c.write_sites.result (λ _. z ≡ Ok (patched_lists u).properties) (λ e. IsFault e z)) (sym total) c.write_sites.ensures.written

pub returns-in-Err-clause-fixups : goal.returns-in-Err-clause-fixups
returns-in-Err-clause-fixups c = λ x at.
    fixups-unread c.in-Err.error (lists c.args.base.now) (fixups_of c.args.patched.now.live) x
    (subst (λ (d : LiveTree Lent). IsFault c.in-Err.error (gathered (fixups_of d))) c.live.ensures.tree c.in-Err.ensures)

pub returns-in-Err-take_named_sites-clause-fixups : goal.returns-in-Err-take_named_sites-clause-fixups
returns-in-Err-take_named_sites-clause-fixups c = λ x at.
    let es = filter is_fixups (lists c.args.patched.now.live).properties in
    let fs = c.in_default.ensures.0 in
    let read : gathered es ≡ Ok fs = sym (ap (λ (d : LiveTree Lent). gathered (fixups_of d)) c.live.ensures.tree) ∙ c.in_default.ensures.1 in
    let found : map fixup_named c.read_fixups.new.found.items ≡ fs = c.in_default.ensures.2 ∙ ap (λ xs. map fixup_named xs ++ fs) c.new-found.ensures.items in
    let lent : fs ≡ map fixup_named c.deref.result.now = sym found ∙ ap (map fixup_named) (sym c.deref.ensures.value) in
    let e = c.in-Err-take_named_sites.error in
    fixups-untaken e (lists c.args.base.now) es x fs read (subst (λ (gs : List Fixup). IsFault e (takes gs x)) (sym lent) (c.in-Err-take_named_sites.ensures.step x at))
