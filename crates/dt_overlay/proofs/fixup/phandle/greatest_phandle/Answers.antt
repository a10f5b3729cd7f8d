use Rattle.std.proofs.Common.{◌≡◌, ◌<◌, length, unwrap_or, ap, sym, ◌∙◌, arith}
use Rattle.dt_live.specs.ByRow.{row_property}
use Rattle.dt_source.specs.OverlayMeaning.Shifted.{greatest, phandle_of}
use Rattle.dt_overlay.proofs.FixupLemmas.Phandles.{phandles_from, greatest-end, greatest-more, whole-phandles}
use Rattle.dt_overlay.proofs.fixup.phandle.greatest_phandle.Goals as goal
use Rattle.dt_overlay.proofs.fixup.phandle.greatest_phandle.Goals.{then-greatest-number, else-greatest-number}

pub loop-property-preserved : goal.loop-property-preserved
loop-property-preserved c =
    let d = c.args.live.now in
    let i = c.loop-property.property in
    let within : i < length d.properties.items = omega (arith, c.loop-property-test.true, ap length c.properties-property-end.ensures) in
    let number : c.unwrap_or-number.result ≡ unwrap_or (phandle_of (row_property d i)) 0 = c.unwrap_or-number.ensures ∙ ap (λ o. unwrap_or o 0) c.row_phandle.ensures in
    let more = greatest-more d i c.loop-property.greatest c.if-greatest-number.greatest (greatest (phandles_from d 0)) within in
    elim c.if-greatest-number.branch [
      | then-greatest-number w ↦ record { rest = more (omega (arith, w.greatest-is, number, w.if-greatest-number.true)) c.loop-property.invariant.rest }
      | else-greatest-number w ↦ record { rest = more (omega (arith, w.greatest-is, number, w.if-greatest-number.false)) c.loop-property.invariant.rest }
    ]

pub returns : goal.returns
returns c =
    let d = c.args.live.now in
    greatest-end d c.loop-property.property c.loop-property.greatest (greatest (phandles_from d 0))
    (omega (arith, c.loop-property-test.false, ap length c.properties-property-end.ensures)) c.loop-property.invariant.rest
    ∙ sym (ap greatest (whole-phandles d c.requires))
