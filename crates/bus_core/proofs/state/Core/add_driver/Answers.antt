use Rattle.std.proofs.Common.{◌≡◌, ◌∙◌, List, get_or, length, ap, sym, subst, arith}
use Rattle.bus_plan.specs.LateDriver.{with_driver, gaining}
use Rattle.bus_plan.specs.Plan.{PlannedDevice}
use Rattle.bus_core.specs.RefinementPhase.{phase_at}
use Rattle.bus_core.specs.RefinementCounts.{due_with}
use Rattle.bus_core.specs.RefinementSound.{IsSound}
use Rattle.bus_core.specs.RefinementView.{IsKept}
use Rattle.bus_core.proofs.LateCounts.{late-sound, late-counted}
use Rattle.bus_core.proofs.LateLemmas.{late-long, late-none}
use Rattle.bus_core.proofs.state.Core.add_driver.Goals as goal

pub invariant_of-self-in-Ok : goal.invariant_of-self-in-Ok
invariant_of-self-in-Ok c =
    let core = c.self.inside
    in let new = c.register.new.self
    in let name = c.args.name.now
    in let strings = c.args.compatibles.now
    in let is : new ≡ with_driver core.plan name strings = c.in-Ok.ensures.ok
    in record {
      sound = (let P : List PlannedDevice → Type 0 = λ p. IsSound p core.phases.items core.history.items core.begins
          in subst P (sym is) (late-sound core.plan name strings core.phases.items core.history.items core.begins c.self.invariant.sound));
      counted = late-counted core.plan new name strings core.phases.items core.history.items core.begins core.missing.items core.due c.mark.new.due core.flights
          is c.self.invariant.sound c.mark.ensures.places
          (λ d within. c.mark.ensures.due d within
          ∙ (λ i. due_with new d (phase_at (c.deref.ensures.value i) d) (get_or (c.deref-in-Ok.ensures.value i) d 0)))
          c.self.invariant.counted;
      room = omega (arith, c.self.invariant.room, ap (λ p. length p) is, late-long core.plan name strings);
    }

-- nobody gained, so the plan and what is kept of it stay
pub invariant_of-self-in-Ok-eq0 : goal.invariant_of-self-in-Ok-eq0
invariant_of-self-in-Ok-eq0 c =
    let core = c.self.inside
    in let none : gaining core.plan c.args.compatibles.now ≡ 0 = sym c.in-Ok-eq0.ensures.count ∙ c.in-Ok-eq0.field-0-test
    in let is : c.register.new.self ≡ core.plan = c.in-Ok-eq0.ensures.ok ∙ late-none core.plan c.args.name.now c.args.compatibles.now none
    in let Kept : List PlannedDevice → Type 0 = λ p. IsKept (record { plan = p; phases = core.phases; history = core.history; begins = core.begins; missing = core.missing; due = core.due; flights = core.flights; registered = c.push.new.self })
    in subst Kept (sym is) (record { sound = c.self.invariant.sound; counted = c.self.invariant.counted; room = c.self.invariant.room })
