use Rattle.std.proofs.Common.{rules}
use Rattle.bus_drivers.proofs.walk.Walk.meet.Goals as goal

pub returns-clause-available : goal.returns-clause-available
returns-clause-available c = search rules

pub returns-clause-devices : goal.returns-clause-devices
returns-clause-devices c = search rules
