use Rattle.std.proofs.Common.{◌≡◌, ◌∙◌, ◌≤◌, ◌+◌, Some, None, true, false, length, ap, sym, arith}
use Rattle.std.specs.Prelude.{codes}
use Rattle.std.specs.Str.{bytes_eq}
use Rattle.dt_tree.specs.Phandle.{is_reserved}
use Rattle.dt_live.specs.Rows.{path_of, property_of, node_path}
use Rattle.dt_source.specs.OverlayMeaning.Shifted.{site}
use Rattle.dt_overlay.specs.Fixup.PatchedOverlay.{patched_lists, value_at}
use Rattle.dt_overlay.proofs.FixupLemmas.LookUps.{row-there, value-none, value-some}
use Rattle.dt_overlay.proofs.FixupLemmas.OpenRows.{not-there, not-inside, fixup_named-phandle, open-site}
use Rattle.dt_overlay.proofs.fixup.sites.open_row.Goals as goal

pub returns-in_default : goal.returns-in_default
returns-in_default c =
    let s = c.args.patched.now in
    let none : property_of s.live c.args.node c.args.name.now ≡ None = sym c.property.ensures ∙ c.in_default.is in
    not-there (site (node_path s.live c.args.node) c.args.name.now c.args.offset) (patched_lists s).properties
    (value-none s.live c.check.ensures.whole (value_at s) c.args.node c.args.name.now c.requires.known none)

pub value-length-requires : goal.value-length-requires
value-length-requires c =
    let s = c.args.patched.now in
    let found : property_of s.live c.args.node c.args.name.now ≡ Some c.in-Some.row = sym c.property.ensures ∙ c.in-Some.is in
    record { known = (row-there s.live c.check.ensures.whole c.args.node c.args.name.now c.in-Some.row found).0 }

pub returns-then-length-lt4 : goal.returns-then-length-lt4
returns-then-length-lt4 c =
    let s = c.args.patched.now in
    let found : property_of s.live c.args.node c.args.name.now ≡ Some c.in-Some.row = sym c.property.ensures ∙ c.in-Some.is in
    let same : length c.value-length.result.now ≡ length (value_at s c.in-Some.row) = ap length c.value-length.ensures in
    not-inside (site (node_path s.live c.args.node) c.args.name.now c.args.offset) (patched_lists s).properties (value_at s c.in-Some.row)
    (value-some s.live c.check.ensures.whole (value_at s) c.args.node c.args.name.now c.in-Some.row c.requires.known found) (omega (arith, same))

pub returns-then-length-offset : goal.returns-then-length-offset
returns-then-length-offset c =
    let s = c.args.patched.now in
    let found : property_of s.live c.args.node c.args.name.now ≡ Some c.in-Some.row = sym c.property.ensures ∙ c.in-Some.is in
    let same : length c.value-length.result.now ≡ length (value_at s c.in-Some.row) = ap length c.value-length.ensures in
    not-inside (site (node_path s.live c.args.node) c.args.name.now c.args.offset) (patched_lists s).properties (value_at s c.in-Some.row)
    (value-some s.live c.check.ensures.whole (value_at s) c.args.node c.args.name.now c.in-Some.row c.requires.known found) (omega (arith, same))

pub returns-then-eq : goal.returns-then-eq
returns-then-eq c =
    let s = c.args.patched.now in
    let same : bytes_eq c.args.name.now (codes "phandle") ≡ true = ap (λ k. bytes_eq c.args.name.now k) (sym c.as_slice.ensures) ∙ sym c.eq.ensures ∙ c.if-eq.true in
    fixup_named-phandle (site (node_path s.live c.args.node) c.args.name.now c.args.offset) (patched_lists s).properties same

pub returns : goal.returns
returns c =
    let s = c.args.patched.now in
    let found : property_of s.live c.args.node c.args.name.now ≡ Some c.in-Some.row = sym c.property.ensures ∙ c.in-Some.is in
    let same : length c.value-length.result.now ≡ length (value_at s c.in-Some.row) = ap length c.value-length.ensures in
    let inside : c.args.offset + 4 ≤ length (value_at s c.in-Some.row) = omega (arith, same) in
    let plain : is_reserved (node_path s.live c.args.node) ≡ false = ap (λ rows. is_reserved (path_of rows c.args.node)) (sym c.nodes.ensures) ∙ sym c.is_reserved.ensures ∙ c.if-is_reserved.false in
    let other : bytes_eq c.args.name.now (codes "phandle") ≡ false = ap (λ k. bytes_eq c.args.name.now k) (sym c.as_slice.ensures) ∙ sym c.eq.ensures ∙ c.if-eq.false in (
      open-site (site (node_path s.live c.args.node) c.args.name.now c.args.offset) (patched_lists s).properties (value_at s c.in-Some.row)
          (value-some s.live c.check.ensures.whole (value_at s) c.args.node c.args.name.now c.in-Some.row c.requires.known found) inside plain other,
      found,
      inside,
    )
