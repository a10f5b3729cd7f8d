use Rattle.std.proofs.Common.{◌≡◌, ◌<◌, ℕ, false, get_or, length}
use Rattle.bus_core.specs.RefinementPhase.{phase_at}
use Rattle.bus_core.specs.RefinementCounts.{due_with}
use Rattle.bus_core.proofs.counts.mark.Given as goal

-- the devices so far are marked
abbrev pub invariant-loop-index : goal.invariant-loop-index
invariant-loop-index l = record {
  long : length l.due ≡ length l.plan;
  marks : (d : ℕ) → d < l.index → get_or l.due d false ≡ due_with l.plan d (phase_at l.phases d) (get_or l.missing d 0);
}
