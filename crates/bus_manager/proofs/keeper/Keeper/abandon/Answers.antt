use Rattle.std.proofs.Common.{◌≡◌, ◌<◌, ◌-◌, None, length, ap, sym, arith}
use Rattle.std.proofs.lemmas.List.{length_push}
use Rattle.bus_core.specs.declared.event.Event.TheVariants.{Abandon}
use Rattle.bus_core.specs.Step.{abandon_refusal, without_flight}
use Rattle.bus_manager.specs.Private.KeeperView.{IsSoundKeeper}
use Rattle.bus_manager.proofs.Steps.{abandoned-sound}
use Rattle.bus_manager.proofs.keeper.Keeper.abandon.Goals as goal

pub invariant_of-self-2 : goal.invariant_of-self-2
invariant_of-self-2 c =
    let d = c.args.device
    in let k = c.self.inside
    in let within : d < length k.core.plan = omega (arith, c.requires, ap (λ v. length v.plan) c.self.view_is)
    in let allowed : abandon_refusal k.core.state d ≡ None = sym c.in_ok-abandon.ensures.refused
    in let core : c.abandon.new.self ≡ record { plan = k.core.plan; state = without_flight k.core.state d } = c.in_ok-abandon.ensures.abandoned
    in record {
      sound = coe 1 0 (i. IsSoundKeeper (core i) (c.store.ensures.items i) k.bound (k.flying - 1)) (abandoned-sound k.core k.events.items k.bound k.flying d within allowed c.self.invariant.sound);
      room = omega (arith, ap length c.store.ensures.items, length_push k.events.items (Abandon d), c.store.new.events.ok.0, k.events.ok.0, c.self.invariant.room, c.store.ensures.room);
    }
