use Rattle.std.proofs.Common.{◌≡◌, ◌≤◌, ◌++◌, drop}
use Rattle.dt_build.specs.Resolve.Private.Gone.{part_targets}
use Rattle.dt_build.proofs.resolve.leaving.push_targets.Given as goal

abbrev pub invariant-loop-part : goal.invariant-loop-part
invariant-loop-part l = record {
  few : l.used ≤ l.part-index;
  rest : l.left.items ++ part_targets (drop l.part-index l.value) (drop l.used l.targets) ≡ l.fn.left.items ++ part_targets l.value l.targets;
}
