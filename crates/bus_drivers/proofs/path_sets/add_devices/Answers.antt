-- Each path is added behind those before it.
use Rattle.std.proofs.Common.{◌∙◌, ap, sym, refl, ◌∷◌, ◌++◌, ◌+◌, drop}
use Rattle.bus_plan.specs.PlanPaths.{is_among}
use Rattle.bus_drivers.specs.Private.Matching.{device_paths}
use Rattle.bus_plan.proofs.PathSets.{paths-more, paths-all}
use Rattle.bus_drivers.proofs.path_sets.add_devices.Goals as goal

pub loop-device-init : goal.loop-device-init
loop-device-init c = λ q. ap (λ ps. is_among q (ps ++ device_paths c.args.devices.now)) c.requires

pub loop-device-preserved : goal.loop-device-preserved
loop-device-preserved c =
    paths-more device_paths c.args.devices.now c.loop-device.device-index c.device-item.result c.loop-device.index c.add.new.self _ c.as_bytes.result.now c.loop-device-test.true c.device-item.is
    (ap (λ p. p ∷ device_paths (drop (c.loop-device.device-index + 1) c.args.devices.now)) (sym (c.as_bytes.ensures.value ∙ c.path.ensures))) c.in_ok-add.ensures c.loop-device.invariant

pub returns : goal.returns
returns c = paths-all device_paths c.args.devices.now c.loop-device.device-index c.loop-device.index _ refl c.loop-device-test.false c.loop-device.invariant
