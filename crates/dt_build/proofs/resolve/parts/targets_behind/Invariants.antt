use Rattle.std.proofs.Common.{◌≡◌, ◌+◌, ◌≤◌, drop}
use Rattle.dt_build.specs.Resolve.Founds.{all_uses}
use Rattle.dt_build.proofs.resolve.parts.targets_behind.Given as goal

abbrev pub invariant-loop-part : goal.invariant-loop-part
invariant-loop-part l = record {
  few : l.count ≤ l.part-index;
  count : l.count + all_uses (drop l.part-index l.value) ≡ all_uses l.value;
}
