use Rattle.std.proofs.Common.{◌≡◌, ◌+◌, length}
use Rattle.bus_plan.specs.Lines.{lines}
use Rattle.bus_log.proofs.tracing.Trace.read.Given as goal

abbrev pub invariant-loop-line : goal.invariant-loop-line
invariant-loop-line l = l.number + length l.line-iterator ≡ length (lines l.log)
