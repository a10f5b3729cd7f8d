-- The plan of a tree is lawful.
use Rattle.std.proofs.Common.{◌∙◌, ap, sym, Ok}
use Rattle.bus_drivers.proofs.Lawful.{plan_of-lawful}
use Rattle.bus_drivers.proofs.planning.plan.Goals as goal

pub of-requires : goal.of-requires
of-requires c = plan_of-lawful c.args.tree.now c.check.ensures c.args.drivers.now c.check-2.ensures c.in_ok-devices.devices.items c.in_ok-devices.ensures

pub returns : goal.returns
returns c = c.in_ok-devices.ensures ∙ ap Ok (sym c.in_ok-of.ensures)
