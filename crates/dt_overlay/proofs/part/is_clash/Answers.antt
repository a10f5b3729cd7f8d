use Rattle.std.proofs.Common.{◌≡◌, ◌&&◌, true, false, is_some, refl, sym, ap, ◌∙◌}
use Rattle.std.specs.Prelude.{codes}
use Rattle.std.specs.Str.{bytes_eq}
use Rattle.dt_source.specs.TreeMeaning.MapOf.{value_in}
use Rattle.dt_live.specs.Rows.{node_path, property_of}
use Rattle.dt_live.specs.Flattened.{lists}
use Rattle.dt_overlay.proofs.Clashes.{look-up}
use Rattle.dt_overlay.proofs.part.is_clash.Goals as goal

pub returns-then-eq : goal.returns-then-eq
returns-then-eq c =
    let d = c.args.live.now in
    let phandle : c.as_slice.result.now ≡ codes "phandle" = c.as_slice.ensures in
    let there : bytes_eq c.args.name.now (codes "phandle") ≡ true =
    ap (bytes_eq c.args.name.now) (sym phandle) ∙ sym c.eq.ensures ∙ c.if-eq.true in
    c.is_some.ensures ∙ ap is_some c.property.ensures
    ∙ look-up d c.requires.sound c.args.node c.args.name.now c.requires.stands (property_of d c.args.node c.args.name.now) refl
    ∙ ap (λ b. b && is_some (value_in (lists d).properties (node_path d c.args.node) c.args.name.now)) (sym there)

pub returns : goal.returns
returns c =
    let d = c.args.live.now in
    let phandle : c.as_slice.result.now ≡ codes "phandle" = c.as_slice.ensures in
    let other : bytes_eq c.args.name.now (codes "phandle") ≡ false =
    ap (bytes_eq c.args.name.now) (sym phandle) ∙ sym c.eq.ensures ∙ c.if-eq.false in
    sym (ap (λ b. b && is_some (value_in (lists d).properties (node_path d c.args.node) c.args.name.now)) other)
