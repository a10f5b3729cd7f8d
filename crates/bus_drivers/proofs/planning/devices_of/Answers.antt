-- A tree of few devices is planned device by device.
use Rattle.bus_drivers.proofs.PlanningLemmas.{indexed-all}
use Rattle.bus_drivers.proofs.planning.devices_of.Goals as goal

pub returns : goal.returns
returns c = indexed-all c.args.tree.now.root _ c.args.drivers.now (λ ds. ds.items) c.plan_devices.result c.in_ok-phandle_index.ensures.0 c.in_ok-phandle_index.ensures.1 c.plan_devices.ensures
