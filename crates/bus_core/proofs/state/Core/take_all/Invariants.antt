use Rattle.std.proofs.Common.{◌≡◌, drop, length}
use Rattle.bus_core.specs.Replay.{replay_from}
use Rattle.bus_core.proofs.state.Core.take_all.Given as goal

-- what is left of the events leads from here where all of them lead from the beginning
abbrev pub invariant-loop-index : goal.invariant-loop-index
invariant-loop-index l = record {
  long : length l.self.plan ≡ length l.initial.self.plan;
  rest : replay_from l.index l.self (drop l.index l.events) ≡ replay_from 0 l.initial.self l.events;
}
