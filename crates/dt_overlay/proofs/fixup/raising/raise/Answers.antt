use Rattle.std.proofs.Common.{is_none, ap, sym, ◌∙◌}
use Rattle.dt_live.specs.Flattened.{lists}
use Rattle.dt_source.specs.OverlayMeaning.Shifted.{differ, phandles}
use Rattle.dt_overlay.specs.Fixup.PatchedOverlay.{patched_lists}
use Rattle.dt_overlay.proofs.FixupLemmas.Raised.{all-raised, all-clash}
use Rattle.dt_overlay.proofs.fixup.raising.raise.Goals as goal

pub returns-in-Some-clause-phandles : goal.returns-in-Some-clause-phandles
returns-in-Some-clause-phandles c =
    all-clash c.args.shift (lists c.args.patched.now.live).properties (patched_lists c.raise_properties.new.patched).properties c.in_ok-raise_properties.ensures.raised
    (sym (c.in_ok-clash.ensures ∙ ap (λ d. differ (phandles (lists d).properties)) (c.live.ensures.tree ∙ c.in_ok-raise_properties.ensures.live)) ∙ ap is_none c.in-Some.is)

pub returns-clause-phandles : goal.returns-clause-phandles
returns-clause-phandles c =
    all-raised c.args.shift (lists c.args.patched.now.live).properties (patched_lists c.raise_properties.new.patched).properties c.in_ok-raise_properties.ensures.raised
    (sym (c.in_ok-clash.ensures ∙ ap (λ d. differ (phandles (lists d).properties)) (c.live.ensures.tree ∙ c.in_ok-raise_properties.ensures.live)) ∙ ap is_none c.in_default.is)
