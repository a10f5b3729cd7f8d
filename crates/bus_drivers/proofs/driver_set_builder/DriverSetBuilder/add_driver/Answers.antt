-- The new name stands last, in the list and in the index.
use Rattle.std.proofs.Common.{◌≡◌, ◌∙◌, ap, sym, ◌++◌, ◌∷◌, [], false, List, ℕ}
use Rattle.bus_plan.specs.PlanPaths.{is_among}
use Rattle.bus_drivers.specs.Driver.{DriverData}
use Rattle.bus_drivers.proofs.BuilderLemmas.{builder-more}
use Rattle.bus_drivers.proofs.driver_set_builder.DriverSetBuilder.add_driver.Goals as goal

pub invariant_of-self-2 : goal.invariant_of-self-2
invariant_of-self-2 c =
    let name : c.as_bytes-name.result.now ≡ c.args.driver.name = c.as_bytes-name.ensures.value ∙ c.name.ensures.value in
    let new : is_among c.args.driver.name c.self.inside.names ≡ false =
    ap (λ (n : List ℕ). is_among n c.self.inside.names) (sym name) ∙ sym c.contains.ensures ∙ c.if-contains.false in
    builder-more c.self.inside.drivers.items c.push-2.new.self.items c.self.inside.names c.push.new.self c.args.driver c.self.invariant
    c.name.ensures.lawful new ((rw c.unwrap.ensures at c.push-2.ensures.items) ∙ ap (λ (ds : List DriverData). ds ++ c.args.driver ∷ []) c.in_ok-reserve.ensures.items) (c.in_ok-push.ensures.ok ∙ ap (λ (n : List ℕ). c.self.inside.names ++ n ∷ []) name)
