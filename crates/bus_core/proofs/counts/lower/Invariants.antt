use Rattle.std.proofs.Common.{◌≡◌, drop, length}
use Rattle.bus_core.specs.RefinementPhase.{phase_at}
use Rattle.bus_core.specs.RefinementCounts.{due_with}
use Rattle.bus_core.proofs.CountLemmas.{lowered, marked, IsPositive}
use Rattle.bus_core.proofs.counts.lower.Given as goal

abbrev pub invariant-loop-consumer : goal.invariant-loop-consumer
invariant-loop-consumer l = record {
  missing_long : length l.missing ≡ length l.plan;
  due_long : length l.due ≡ length l.plan;
  positive : IsPositive l.missing (drop l.consumer-index l.consumers);
  lower : lowered l.missing (drop l.consumer-index l.consumers) ≡ lowered l.initial.missing l.consumers;
  mark : marked (λ d. due_with l.plan d (phase_at l.phases d)) l.missing l.due (drop l.consumer-index l.consumers)
      ≡ marked (λ d. due_with l.plan d (phase_at l.phases d)) l.initial.missing l.initial.due l.consumers;
}
