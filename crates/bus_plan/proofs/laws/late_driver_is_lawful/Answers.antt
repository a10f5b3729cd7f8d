use Rattle.bus_plan.proofs.LateDriverLemmas.{late_driver_is_lawful}
use Rattle.bus_plan.proofs.laws.late_driver_is_lawful.Goals as goal

pub returns : goal.returns
returns c = late_driver_is_lawful
