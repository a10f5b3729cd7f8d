use Rattle.std.proofs.Common.{◌≡◌}
use Rattle.std.specs.Prelude.{flat_map}
use Rattle.std.specs.List.{range_with_len}
use Rattle.bus_core.specs.Report.{core_line}
use Rattle.bus_core.proofs.state.Core.device_lines.Given as goal

abbrev pub invariant-loop-index : goal.invariant-loop-index
invariant-loop-index l = l.text.items ≡ flat_map (core_line l.self.plan l.self.state) (range_with_len 0 l.index)
