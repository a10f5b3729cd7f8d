use Rattle.std.proofs.Common.{◌≡◌, ◌≤◌, ◌+◌, length}
use Rattle.std.specs.Prelude.{All}
use Rattle.bus_core.specs.Replay.{IsEventOf}
use Rattle.bus_core.specs.Schedule.{behind, schedule_behind, schedule_of}
use Rattle.bus_core.proofs.schedule.read_schedule.Given as goal

abbrev pub invariant-loop-line : goal.invariant-loop-line
invariant-loop-line l = record {
  counted : l.number + length l.line-iterator ≤ length l.text;
  rest : behind l.events.items (schedule_behind l.plan l.number l.line-iterator) ≡ schedule_of l.plan l.text;
  within : All (IsEventOf l.plan) l.events.items;
}
