use Rattle.std.proofs.Common.{◌<◌, ◌&&◌, is_some, length, ap, sym, ◌∙◌, ◌+◌, arith, nat_cmp}
use Rattle.std.specs.Map.{lookup}
use Rattle.std.specs.BTreeMap.{is_at}
use Rattle.dt_source.specs.OverlayMeaning.Shifted.{differ}
use Rattle.dt_overlay.specs.Fixup.Private.Rows.{is_met}
use Rattle.dt_overlay.proofs.FixupLemmas.Phandles.{are_new, phandles_from, distinct-start, distinct-more, distinct-same, distinct-stops, distinct-end, whole-phandles}
use Rattle.dt_overlay.proofs.fixup.raising.find_same.Goals as goal
use Rattle.dt_overlay.proofs.fixup.raising.find_same.Goals.{in-Some+in_ok-other+in_default-2, in_default}

pub loop-property-init : goal.loop-property-init
loop-property-init c =
    let e = c.new-met.ensures.empty in
    record { rest = distinct-start c.args.live.now (is_met c.new-met.result) (λ n. ap (λ es. is_some (lookup (is_at (nat_cmp n)) es)) e) }

pub returns-in-Some-2 : goal.returns-in-Some-2
returns-in-Some-2 c =
    let d = c.args.live.now in
    distinct-stops d c.loop-property.property c.in-Some.number (is_met c.loop-property.met) (differ (phandles_from d 0))
    (omega (arith, c.loop-property-test.true, ap length c.properties-property-end.ensures)) c.in-Some.ensures
    (sym c.in_ok-other.ensures.new ∙ ap is_some c.in-Some-2.is) c.loop-property.invariant.rest
    ∙ sym (ap differ (whole-phandles d c.requires))

pub loop-property-preserved : goal.loop-property-preserved
loop-property-preserved c =
    let d = c.args.live.now in
    let i = c.loop-property.property in
    let met = c.loop-property.met in
    let within : i < length d.properties.items = omega (arith, c.loop-property-test.true, ap length c.properties-property-end.ensures) in
    elim c.match-row_phandle.branch [
      | in-Some+in_ok-other+in_default-2 w ↦ record {
        rest =
            ap (λ m. differ (phandles_from d (i + 1)) && are_new (is_met m) (phandles_from d (i + 1))) w.met-is
            ∙ distinct-more d i w.in-Some.number (is_met met) (is_met w.meet.new.met) (differ (phandles_from d 0)) within w.in-Some.ensures w.in_ok-other.ensures.met
            (sym w.in_ok-other.ensures.new ∙ ap is_some w.in_default-2.is) c.loop-property.invariant.rest;
      }
      | in_default w ↦ record {
        rest =
            ap (λ m. differ (phandles_from d (i + 1)) && are_new (is_met m) (phandles_from d (i + 1))) w.met-is
            ∙ distinct-same d i (is_met met) (differ (phandles_from d 0)) within w.in_default.ensures c.loop-property.invariant.rest;
      }
    ]

pub returns : goal.returns
returns c =
    let d = c.args.live.now in
    distinct-end d c.loop-property.property (is_met c.loop-property.met) (differ (phandles_from d 0))
    (omega (arith, c.loop-property-test.false, ap length c.properties-property-end.ensures)) c.loop-property.invariant.rest
    ∙ sym (ap differ (whole-phandles d c.requires))
