use Rattle.std.proofs.Common.{◌≡◌, ◌++◌, ℕ, List, drop}
use Rattle.bus_plan.specs.PlanPaths.{is_among}
use Rattle.bus_drivers.specs.TreePlan.{fail_paths}
use Rattle.bus_drivers.proofs.path_sets.add_fails.Given as goal

-- the paths so far and those that are left are all paths
abbrev pub invariant-loop-fail : goal.invariant-loop-fail
invariant-loop-fail l = (q : List ℕ) → is_among q (l.index ++ fail_paths (drop l.fail-index l.fails)) ≡ is_among q (fail_paths l.fails)
