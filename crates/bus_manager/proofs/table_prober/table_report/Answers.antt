use Rattle.bus_plan.specs.Plan.{suppliers_of}
use Rattle.bus_manager.specs.Seen.{sees}
use Rattle.bus_manager.proofs.MissingSupplier.{found, none-found}
use Rattle.bus_manager.proofs.table_prober.table_report.Goals as goal

pub returns-in-Some-clause-lawful : goal.returns-in-Some-clause-lawful
returns-in-Some-clause-lawful c = found (sees c.args.seen.now) (suppliers_of c.args.plan.now c.args.device) c.in-Some.supplier c.in-Some.ensures

pub returns-in-None-clause-lawful : goal.returns-in-None-clause-lawful
returns-in-None-clause-lawful c = none-found (sees c.args.seen.now) (suppliers_of c.args.plan.now c.args.device) c.in-None.ensures
