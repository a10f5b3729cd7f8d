-- What is gathered is of the plan's devices.
use Rattle.std.proofs.Common.{◌∙◌, ap, subst, map}
use Rattle.bus_plan.specs.Consumers.{devices, consumers_of}
use Rattle.bus_plan.specs.Plan.{compatibles_of}
use Rattle.bus_plan.specs.PlanPaths.{is_among}
use Rattle.bus_plan.specs.Private.Indexed.{AreDrivers}
use Rattle.bus_plan.proofs.WaitingLemmas.{listed-all}
use Rattle.bus_plan.proofs.plan.Plan.with_index.Goals as goal

pub invariant_of-result : goal.invariant_of-result
invariant_of-result c = record {
  lawful = c.requires.lawful;
  agrees = c.requires.agrees;
  gathered = c.in_ok-consumers.ensures ∙ ap (λ plan. map (consumers_of plan) (devices plan)) c.as_slice.ensures.value;
  drivers = subst (λ plan. AreDrivers plan c.in_ok-drivers.drivers) c.as_slice-2.ensures.value c.in_ok-drivers.ensures;
  listed = listed-all c.args.devices.items c.in_ok-waiting.waiting c.requires.lawful
      (λ d s. c.in_ok-waiting.ensures d s ∙ ap (λ plan. is_among s (compatibles_of plan d)) c.as_slice-3.ensures.value);
}
