use Rattle.std.proofs.Common.{◌≡◌, ℕ, ◌+◌, List, Result, Ok, subst, sym, ap, ap₂, ◌∙◌, arith}
use Rattle.std.specs.List.{filter}
use Rattle.dt_tree.specs.Steps.{fold}
use Rattle.dt_live.specs.declared.live_tree.LiveTree.{LiveTree}
use Rattle.dt_live.specs.Flattened.{Lent, lists}
use Rattle.dt_source.specs.TreeMeaning.Resolved.{Resolved}
use Rattle.dt_source.specs.OverlayMeaning.Fault.{Fault}
use Rattle.dt_source.specs.OverlayMeaning.Shifted.{Shifting, Value, is_fixups, is_local_fixup, raise_sites, shift, with_fixups, with_phandles}
use Rattle.dt_overlay.specs.Fixup.OverlayFault.{IsFault}
use Rattle.dt_overlay.specs.Fixup.PatchedOverlay.{patched_lists}
use Rattle.dt_overlay.proofs.FixupLemmas.Composed.{raised_at, starts-at, phandles-refused, local-refused, fixups-refused, all-done}
use Rattle.dt_overlay.proofs.fixup.shifting.shift_values.Goals as goal

-- what the local fixups of an overlay do
abbrev local_done : ℕ → LiveTree Lent → List Value → Result Shifting Fault
local_done n d es = fold (raise_sites n) (filter is_local_fixup (lists d).properties) (raised_at es)

-- the overlay as a patched overlay shows it
abbrev with_rows : List Value → LiveTree Lent → Resolved
with_rows es d = record { nodes = (lists d).nodes; properties = es }

pub returns-in-Err-clause-shifted : goal.returns-in-Err-clause-shifted
returns-in-Err-clause-shifted c =
    let base = lists c.args.base.now in
    let some = c.requires.some in
    let rise : c.greatest_phandle.result + 1 ≡ shift base = omega (arith, c.greatest_phandle.ensures) in
    let e = c.in-Err.error in
    phandles-refused base (lists c.args.patched.now.live) some e
    (subst (λ n. IsFault e (with_phandles n (lists c.args.patched.now.live).properties)) rise c.in-Err.ensures.phandles)

pub returns-in-Err-raise_local-clause-shifted : goal.returns-in-Err-raise_local-clause-shifted
returns-in-Err-raise_local-clause-shifted c =
    let base = lists c.args.base.now in
    let some = c.requires.some in
    let rise : c.greatest_phandle.result + 1 ≡ shift base = omega (arith, c.greatest_phandle.ensures) in
    let s1 = c.raise.new.patched in
    let es = (patched_lists s1).properties in
    let phandles : with_phandles (shift base) (lists c.args.patched.now.live).properties ≡ Ok es =
    sym (ap (λ n. with_phandles n (lists c.args.patched.now.live).properties) rise) ∙ c.in_default.ensures.phandles in
    let live1 : s1.live ≡ c.args.patched.now.live = c.in_default.ensures.live in
    let e = c.in-Err-raise_local.error in
    local-refused base (lists c.args.patched.now.live) some es phandles e
    (subst (λ d. IsFault e (local_done (shift base) d es)) live1
    (subst (λ n. IsFault e (local_done n s1.live es)) rise (c.in-Err-raise_local.ensures.step (raised_at es) (starts-at s1 c.in_default.ensures.unmarked))))

pub returns-in-Err-resolve_fixups-clause-shifted : goal.returns-in-Err-resolve_fixups-clause-shifted
returns-in-Err-resolve_fixups-clause-shifted c =
    let base = lists c.args.base.now in
    let some = c.requires.some in
    let rise : c.greatest_phandle.result + 1 ≡ shift base = omega (arith, c.greatest_phandle.ensures) in
    let s1 = c.raise.new.patched in
    let s2 = c.raise_local.new.patched in
    let es = (patched_lists s1).properties in
    let phandles : with_phandles (shift base) (lists c.args.patched.now.live).properties ≡ Ok es =
    sym (ap (λ n. with_phandles n (lists c.args.patched.now.live).properties) rise) ∙ c.in_default.ensures.phandles in
    let live1 : s1.live ≡ c.args.patched.now.live = c.in_default.ensures.live in
    let live2 : s2.live ≡ c.args.patched.now.live = c.in_default-raise_local.ensures.live ∙ live1 in
    let local = c.in_default-raise_local.ensures.step (raised_at es) (starts-at s1 c.in_default.ensures.unmarked) in
    let done : local_done (shift base) c.args.patched.now.live es ≡ Ok local.0 = sym (ap₂ (λ n d. local_done n d es) rise live1) ∙ local.1 in
    let e = c.in-Err-resolve_fixups.error in
    fixups-refused base (lists c.args.patched.now.live) some es phandles local.0 done e
    (subst (λ d. IsFault e (with_fixups base (filter is_fixups (lists d).properties) local.0)) live2 (c.in-Err-resolve_fixups.ensures.fixups local.0 local.2))

pub returns-clause-shifted : goal.returns-clause-shifted
returns-clause-shifted c =
    let base = lists c.args.base.now in
    let some = c.requires.some in
    let rise : c.greatest_phandle.result + 1 ≡ shift base = omega (arith, c.greatest_phandle.ensures) in
    let s1 = c.raise.new.patched in
    let s2 = c.raise_local.new.patched in
    let s3 = c.resolve_fixups.new.patched in
    let es = (patched_lists s1).properties in
    let fs = (patched_lists s3).properties in
    let phandles : with_phandles (shift base) (lists c.args.patched.now.live).properties ≡ Ok es =
    sym (ap (λ n. with_phandles n (lists c.args.patched.now.live).properties) rise) ∙ c.in_default.ensures.phandles in
    let live1 : s1.live ≡ c.args.patched.now.live = c.in_default.ensures.live in
    let live2 : s2.live ≡ c.args.patched.now.live = c.in_default-raise_local.ensures.live ∙ live1 in
    let live3 : s3.live ≡ c.args.patched.now.live = c.in_default-resolve_fixups.ensures.live ∙ live2 in
    let local = c.in_default-raise_local.ensures.step (raised_at es) (starts-at s1 c.in_default.ensures.unmarked) in
    let done : local_done (shift base) c.args.patched.now.live es ≡ Ok local.0 = sym (ap₂ (λ n d. local_done n d es) rise live1) ∙ local.1 in
    let fixups : with_fixups base (filter is_fixups (lists c.args.patched.now.live).properties) local.0 ≡ Ok fs =
    sym (ap (λ d. with_fixups base (filter is_fixups (lists d).properties) local.0) live2) ∙ c.in_default-resolve_fixups.ensures.fixups local.0 local.2 in
    all-done base (lists c.args.patched.now.live) some es phandles local.0 done fs fixups ∙ ap (λ d. Ok (with_rows fs d)) (sym live3)
