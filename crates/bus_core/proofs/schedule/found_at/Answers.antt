-- What a device has is a path.
use Rattle.std.proofs.Common.{◌≡◌, ◌∙◌, sym}
use Rattle.std.specs.Prelude.{Some}
use Rattle.bus_plan.specs.Plan.{device_at}
use Rattle.bus_core.proofs.PathLemmas.{known-path}
use Rattle.bus_core.proofs.schedule.found_at.Goals as goal

pub returns-in-Some : goal.returns-in-Some
returns-in-Some c =
    let found : Some c.in-Some.device ≡ device_at c.args.plan.now c.args.path.now = sym c.in-Some.is ∙ c.device.ensures in
    let known = known-path c.args.plan.now c.args.path.now c.in-Some.device c.check.ensures found in
    (found, known.0, known.1)
