-- Both indexes are those of the set.
use Rattle.std.proofs.Common.{◌∙◌, ap}
use Rattle.dt_tree.specs.Phandle.{or_else}
use Rattle.bus_plan.specs.PlanPaths.{is_among}
use Rattle.bus_drivers.specs.TreePlan.{driver_naming, fail_paths}
use Rattle.bus_drivers.specs.Private.Matching.{driver_found}
use Rattle.bus_drivers.proofs.matching.index_set.Goals as goal

pub returns : goal.returns
returns c = record {
  drivers = λ q. c.in_ok-add_drivers.ensures q ∙ ap (λ es. or_else (driver_found es q) (driver_naming c.drivers.result.now q)) c.requires.no_drivers ∙ ap (λ ds. driver_naming ds q) c.drivers.ensures;
  fails_known = λ q. c.in_ok-add_fails.ensures q ∙ ap (λ fs. is_among q (fail_paths fs)) c.fails.ensures;
}
