use Rattle.std.proofs.Common.{◌≡◌}
use Rattle.std.specs.Prelude.{flat_map}
use Rattle.std.specs.List.{range_with_len}
use Rattle.bus_core.specs.Report.{end_line}
use Rattle.bus_manager.specs.Private.BoardEnd.{bound_by_words}
use Rattle.bus_manager.proofs.end_report.device_lines.Given as goal

abbrev pub invariant-loop-index : goal.invariant-loop-index
invariant-loop-index l = l.text.items ≡ flat_map (end_line l.plan (bound_by_words l.words)) (range_with_len 0 l.index)
