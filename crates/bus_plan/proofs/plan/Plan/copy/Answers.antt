-- The copies are the plan's devices, and as lawful.
use Rattle.std.proofs.Common.{◌≡◌, ◌∙◌, sym, subst}
use Rattle.std.specs.Prelude.{IfOk}
use Rattle.bus_plan.specs.Plan.{IsLawful}
use Rattle.bus_plan.proofs.plan.Plan.copy.Goals as goal

pub of-requires : goal.of-requires
of-requires c = subst IsLawful (sym (c.in_ok-devices.ensures ∙ c.as_slice.ensures.value)) c.self.invariant.lawful

pub returns : goal.returns
returns c = subst (λ ds. IfOk c.of.result (λ plan. plan ≡ ds)) (c.in_ok-devices.ensures ∙ c.as_slice.ensures.value ∙ c.self.view_is) c.of.ensures
