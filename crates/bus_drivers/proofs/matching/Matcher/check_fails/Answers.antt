-- The first unknown line decides.
use Rattle.std.proofs.Common.{inr}
use Rattle.bus_drivers.proofs.PlanningLemmas.{fails-known, fails-unknown}
use Rattle.bus_drivers.proofs.matching.Matcher.check_fails.Goals as goal

pub returns-in-None : goal.returns-in-None
returns-in-None c = fails-known c.args.devices.now c.args.self.now.fails _ c.in_ok-first_unknown.ensures c.in-None.is

pub returns-in-Some : goal.returns-in-Some
returns-in-Some c = inr (fails-unknown c.args.devices.now c.args.self.now.fails _ c.in_ok-first_unknown.ensures c.in-Some.line c.in-Some.is)
