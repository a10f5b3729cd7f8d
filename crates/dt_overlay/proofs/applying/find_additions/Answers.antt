use Rattle.std.proofs.Common.{List, Option, ℕ, sym, subst}
use Rattle.dt_source.specs.OverlayMeaning.Shifted.{fragments}
use Rattle.dt_overlay.specs.Fixup.PatchedOverlay.{patched_lists}
use Rattle.dt_overlay.specs.declared.fragments.Fragment.{Fragment}
use Rattle.dt_overlay.specs.Private.Fragments.{AreFragments}
use Rattle.dt_overlay.specs.Private.SymbolTargets.{AreTargets}
use Rattle.dt_overlay.proofs.applying.find_additions.Goals as goal

pub symbols_size-requires-clause-targets : goal.symbols_size-requires-clause-targets
symbols_size-requires-clause-targets c =
    let base = c.args.rows.now in
    let s = c.args.patched.now in
    subst (λ (ts : List (Option ℕ)). AreTargets base s ts) (sym c.as_slice-2.ensures.value)
    (c.in_ok-targets.ensures base (subst (λ (fs : List Fragment). AreFragments base s (fragments (patched_lists s)) fs) (sym c.as_slice.ensures.value) c.in_ok-list.ensures))

pub find_symbols-requires-clause-targets : goal.find_symbols-requires-clause-targets
find_symbols-requires-clause-targets c =
    let base = c.args.rows.now in
    let s = c.args.patched.now in
    subst (λ (ts : List (Option ℕ)). AreTargets base s ts) (sym c.as_slice-3.ensures.value)
    (c.in_ok-targets.ensures base (subst (λ (fs : List Fragment). AreFragments base s (fragments (patched_lists s)) fs) (sym c.as_slice.ensures.value) c.in_ok-list.ensures))
