-- The index has the paths of the devices.
use Rattle.std.proofs.Common.{◌∙◌, ap}
use Rattle.bus_plan.specs.Plan.{paths}
use Rattle.bus_plan.proofs.plan.Plan.of.Goals as goal

pub with_index-requires-clause-lawful : goal.with_index-requires-clause-lawful
with_index-requires-clause-lawful c = c.requires

pub with_index-requires-clause-agrees : goal.with_index-requires-clause-agrees
with_index-requires-clause-agrees c = c.in_ok-index.ensures ∙ ap paths c.as_slice.ensures.value

pub returns : goal.returns
returns c = c.with_index.ensures
