-- No other device has the path.
use Rattle.std.proofs.Common.{◌∙◌, ◌<◌, ap, sym, length, arith}
use Rattle.bus_plan.specs.Plan.{device_at}
use Rattle.bus_plan.proofs.DistinctLemmas.{bytes_eq-same, device-is}
use Rattle.bus_plan.proofs.plan.Plan.is_at.Goals as goal

pub returns : goal.returns
returns c same =
    let items = c.self.inside.devices.items in
    let within : c.args.place < length items = omega arith in
    let is = c.as_bytes.ensures.value ∙ c.path.ensures in
    ap (λ ds. device_at ds c.args.path.now) (sym c.self.view_is)
    ∙ device-is items c.args.place c.index.result.now c.args.path.now c.self.invariant.lawful.distinct within c.index.ensures
    (sym is ∙ bytes_eq-same _ _ (sym c.eq.ensures ∙ same))
