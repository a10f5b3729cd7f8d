use Rattle.std.proofs.Common.{◌≡◌, ◌≤◌, ◌+◌, None, get_or, set, length, sym, ap, ◌∙◌, subst, arith}
use Rattle.std.proofs.lemmas.List.{get_or_default}
use Rattle.bus_picture.specs.Why.Private.Places.{AreFrom}
use Rattle.bus_picture.proofs.WhyLemmas.FollowLemmas.{cleared, cleared_past, all_clear}
use Rattle.bus_picture.proofs.why.chain.clear.Goals as goal
use Rattle.bus_picture.proofs.why.chain.clear.Goals.{then-index-places, else-index-places}

pub loop-device-preserved : goal.loop-device-preserved
loop-device-preserved c =
    let j = c.loop-device.device-index
    in let x = c.device-item.result
    in let chain = c.args.devices.now
    in let at : get_or chain j 0 ≡ x = get_or_default chain j 0 x c.loop-device-test.true ∙ sym c.device-item.is
    in elim c.if-index-places.branch [
      | then-index-places w ↦
          let places : c.if-index-places.places ≡ set c.loop-device.places x None = w.places-is ∙ ap (λ i. set c.loop-device.places i None) w.index-then-index-places.ensures
          in subst (λ ps. AreFrom (j + 1) ps chain) (sym places) (cleared j c.loop-device.places chain x at c.loop-device.invariant)
      | else-index-places w ↦
          let past : length c.loop-device.places ≤ x = omega (arith, w.if-index-places.false, c.index.ensures)
          in subst (λ ps. AreFrom (j + 1) ps chain) (sym w.places-is) (cleared_past j c.loop-device.places chain x at past c.loop-device.invariant)
    ]

pub returns : goal.returns
returns c = all_clear c.loop-device.device-index c.loop-device.places c.args.devices.now c.loop-device-test.false c.loop-device.invariant
