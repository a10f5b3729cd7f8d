use Rattle.bus_manager.specs.Seen.{sees}
use Rattle.bus_manager.proofs.Shown.{shown}
use Rattle.bus_manager.proofs.prober.probe.Goals as goal

pub returns-clause-shown : goal.returns-clause-shown
returns-clause-shown g c =
    shown (g.P.Prober.attests c.args.prober.now c.args.plan.now c.args.device) c.args.plan.now (sees c.args.seen.now) c.args.device c.probe.result.0 c.probe.result.1
    c.requires.forced c.probe.ensures.lawful c.probe.ensures.attests
