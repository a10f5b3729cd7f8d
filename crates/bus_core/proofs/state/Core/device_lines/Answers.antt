use Rattle.bus_core.specs.Report.{core_line}
use Rattle.bus_core.proofs.ReportLemmas.{lines_more}
use Rattle.bus_core.proofs.state.Core.device_lines.Goals as goal

pub loop-index-preserved : goal.loop-index-preserved
loop-index-preserved c =
    lines_more (core_line c.args.self.now.plan c.args.self.now.state)
    c.loop-index.index c.new.result c.loop-index.text.items c.push_device.new.text.items c.new.ensures c.loop-index.invariant c.in_ok-push_device.ensures
