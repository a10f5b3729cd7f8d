use Rattle.std.proofs.Common.{◌≡◌, replicate}
use Rattle.bus_core.specs.declared.phase.Phase.TheVariants.{Fresh}
use Rattle.bus_core.proofs.state.fresh_phases.Given as goal

abbrev pub invariant-loop-i : goal.invariant-loop-i
invariant-loop-i l = l.phases.items ≡ replicate l._i Fresh
