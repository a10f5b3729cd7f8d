use Rattle.std.proofs.Common.{◌≡◌, [], ◌∷◌, ◌++◌, None, length, ap, ap₂, ◌∙◌, arith}
use Rattle.std.proofs.lemmas.List.{length_push}
use Rattle.bus_core.specs.declared.event.Event.TheVariants.{Register}
use Rattle.bus_core.specs.Step.{register_refusal, registered_core}
use Rattle.bus_manager.specs.Private.KeeperView.{IsSoundKeeper}
use Rattle.bus_manager.proofs.Steps.{registered-sound}
use Rattle.bus_manager.proofs.keeper.Keeper.add_driver.Goals as goal

pub invariant_of-self-2 : goal.invariant_of-self-2
invariant_of-self-2 c =
    let name = c.args.name.now
    in let strings = c.args.compatibles.now
    in let k = c.self.inside
    in let allowed : register_refusal k.core.plan k.core.state name ≡ None = c.in_ok-count.ensures.allowed
    in let core : c.register.new.self ≡ registered_core k.core name strings = c.in_ok-count.ensures.registered
    in let events : c.append.new.items.items ≡ k.events.items ++ Register name strings ∷ [] = c.append.ensures.items ∙ ap₂ (λ xs e. xs ++ e ∷ []) c.reserve.ensures.items c.in_ok-event.ensures
    in record {
      sound = coe 1 0 (i. IsSoundKeeper (core i) (events i) k.bound k.flying) (registered-sound k.core k.events.items k.bound k.flying name strings c.requires.named allowed c.self.invariant.sound);
      room = omega (arith, ap length events, length_push k.events.items (Register name strings), c.append.new.items.ok.0, k.events.ok.0, c.reserve.new.self.ok.0, c.in_ok-reserve.ensures.ok, c.append.ensures.room);
    }
