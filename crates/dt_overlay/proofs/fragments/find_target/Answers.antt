use Rattle.std.proofs.Common.{◌≡◌, Some, None, sym, ap, ap₂, ◌∙◌}
use Rattle.std.specs.Prelude.{codes}
use Rattle.dt_source.specs.TreeMeaning.MapOf.{value_in}
use Rattle.dt_live.specs.Rows.{node_path, property_of}
use Rattle.dt_live.specs.Flattened.{lists}
use Rattle.dt_overlay.specs.Fixup.PatchedOverlay.{patched_lists, value_at}
use Rattle.dt_overlay.proofs.FixupLemmas.LookUps.{value-none, value-some}
use Rattle.dt_source.specs.OverlayMeaning.Applied.{target_by}
use Rattle.dt_overlay.proofs.FragmentRows.{phandle-target}
use Rattle.dt_overlay.proofs.fragments.find_target.Goals as goal

pub value-requires : goal.value-requires
value-requires c =
    let over = c.args.patched.now.live in
    record { known = (c.check.ensures.whole.sound.properties.right c.args.fragment c.as_slice.result.now c.in-Some.row (sym c.in-Some.ensures)).0 }

pub value-requires-in-Some-property : goal.value-requires-in-Some-property
value-requires-in-Some-property c =
    record { known = (c.check.ensures.whole.sound.properties.right c.args.fragment c.as_slice-in-None.result.now c.in-Some-property.row (sym c.in-Some-property.ensures)).0 }

pub returns-in-Some-clause-target : goal.returns-in-Some-clause-target
returns-in-Some-clause-target c =
    let s = c.args.patched.now in
    let base = c.args.base.now in
    let f = c.args.fragment in
    let found : property_of s.live f (codes "target") ≡ Some c.in-Some.row = ap (property_of s.live f) (sym c.as_slice.ensures) ∙ sym c.in-Some.ensures in
    let value : Some c.value.result.now ≡ value_in (patched_lists s).properties (node_path s.live f) (codes "target") =
    ap Some c.value.ensures ∙ sym (value-some s.live c.check.ensures.whole (value_at s) f (codes "target") c.in-Some.row c.requires.known found) in
    let w = value_in (patched_lists s).properties (node_path s.live f) (codes "target-path") in
    phandle-target base c.args.phandles.now c.value.result.now w c.by_phandle.result c.requires.phandles c.by_phandle.ensures
    ∙ ap (λ v. target_by (lists base) v w) value

pub returns-in-Some-property-clause-target : goal.returns-in-Some-property-clause-target
returns-in-Some-property-clause-target c =
    let s = c.args.patched.now in
    let base = c.args.base.now in
    let f = c.args.fragment in
    let none : property_of s.live f (codes "target") ≡ None = ap (property_of s.live f) (sym c.as_slice.ensures) ∙ sym c.in-None.ensures in
    let found : property_of s.live f (codes "target-path") ≡ Some c.in-Some-property.row = ap (property_of s.live f) (sym c.as_slice-in-None.ensures) ∙ sym c.in-Some-property.ensures in
    let gone = value-none s.live c.check.ensures.whole (value_at s) f (codes "target") c.requires.known none in
    let value : Some c.value-in-Some-property.result.now ≡ value_in (patched_lists s).properties (node_path s.live f) (codes "target-path") =
    ap Some c.value-in-Some-property.ensures ∙ sym (value-some s.live c.check.ensures.whole (value_at s) f (codes "target-path") c.in-Some-property.row c.requires.known found) in
    c.by_path.ensures.target
    ∙ ap₂ (λ v w. target_by (lists base) v w) (sym gone) value

pub returns-in-None-property-clause-target : goal.returns-in-None-property-clause-target
returns-in-None-property-clause-target c =
    let s = c.args.patched.now in
    let base = c.args.base.now in
    let f = c.args.fragment in
    let none : property_of s.live f (codes "target") ≡ None = ap (property_of s.live f) (sym c.as_slice.ensures) ∙ sym c.in-None.ensures in
    let none' : property_of s.live f (codes "target-path") ≡ None = ap (property_of s.live f) (sym c.as_slice-in-None.ensures) ∙ sym c.in-None-property.ensures in
    ap₂ (λ v w. target_by (lists base) v w)
    (sym (value-none s.live c.check.ensures.whole (value_at s) f (codes "target") c.requires.known none))
    (sym (value-none s.live c.check.ensures.whole (value_at s) f (codes "target-path") c.requires.known none'))
