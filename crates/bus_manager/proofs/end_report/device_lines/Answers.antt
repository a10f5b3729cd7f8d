use Rattle.bus_core.specs.Report.{end_line}
use Rattle.bus_core.proofs.ReportLemmas.{lines_more}
use Rattle.bus_manager.specs.Private.BoardEnd.{bound_by_words}
use Rattle.bus_manager.proofs.end_report.device_lines.Goals as goal

pub loop-index-preserved : goal.loop-index-preserved
loop-index-preserved c =
    lines_more (end_line c.args.plan.now (bound_by_words c.args.words.now))
    c.loop-index.index c.new.result c.loop-index.text.items c.push_device.new.text.items c.new.ensures c.loop-index.invariant c.in_ok-push_device.ensures
