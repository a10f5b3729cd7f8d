-- Each path is added behind those before it.
use Rattle.std.proofs.Common.{◌∙◌, ap, sym, refl, ◌∷◌, ◌++◌, ◌+◌, drop}
use Rattle.bus_plan.specs.PlanPaths.{is_among}
use Rattle.bus_drivers.specs.TreePlan.{fail_paths}
use Rattle.bus_plan.proofs.PathSets.{paths-more, paths-all}
use Rattle.bus_drivers.proofs.path_sets.add_fails.Goals as goal

pub loop-fail-init : goal.loop-fail-init
loop-fail-init c = λ q. ap (λ ps. is_among q (ps ++ fail_paths c.args.fails.now)) c.requires

pub loop-fail-preserved : goal.loop-fail-preserved
loop-fail-preserved c =
    paths-more fail_paths c.args.fails.now c.loop-fail.fail-index c.fail-item.result c.loop-fail.index c.add.new.self _ c.as_bytes.result.now c.loop-fail-test.true c.fail-item.is
    (ap (λ p. p ∷ fail_paths (drop (c.loop-fail.fail-index + 1) c.args.fails.now)) (sym (c.as_bytes.ensures.value ∙ c.path.ensures))) c.in_ok-add.ensures c.loop-fail.invariant

pub returns : goal.returns
returns c = paths-all fail_paths c.args.fails.now c.loop-fail.fail-index c.loop-fail.index _ refl c.loop-fail-test.false c.loop-fail.invariant
