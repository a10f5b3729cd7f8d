-- The copy of a device stands last.
use Rattle.std.proofs.Common.{◌∙◌, ap, sym, [], ◌∷◌, ◌++◌, take}
use Rattle.std.proofs.lemmas.List.{take_more}
use Rattle.bus_plan.proofs.plan.copies.Goals as goal

pub loop-device-preserved : goal.loop-device-preserved
loop-device-preserved c =
    let i = c.loop-device.device-index in
    c.in_ok-push.ensures.items ∙ ap (λ ds. ds ++ c.in_ok-copy.field-0 ∷ []) c.loop-device.invariant
    ∙ ap (λ d. take i c.args.devices.now ++ d ∷ []) (c.in_ok-copy.ensures ∙ c.device-item.is) ∙ sym (take_more c.args.devices.now i c.device-item.result c.loop-device-test.true)
