use Rattle.std.proofs.Common.{◌≡◌, ◌+◌, ◌∷◌, [], ◌++◌, None, length, ap, sym, ◌∙◌, arith}
use Rattle.std.proofs.lemmas.List.{length_push}
use Rattle.bus_core.specs.declared.event.Event.TheVariants.{Begin}
use Rattle.bus_core.specs.Due.{is_due}
use Rattle.bus_core.specs.Step.{begin_refusal, begin_state}
use Rattle.bus_manager.specs.Private.KeeperView.{IsSoundKeeper}
use Rattle.bus_manager.proofs.Steps.{begun-sound}
use Rattle.bus_manager.proofs.keeper.Keeper.begin.Goals as goal

pub invariant_of-self-2 : goal.invariant_of-self-2
invariant_of-self-2 c =
    let d = c.args.device
    in let k = c.self.inside
    in let allowed : begin_refusal k.core.plan k.core.state d ≡ None = sym c.in_ok-ticket.ensures.refused
    in let core : c.begin.new.self ≡ record { plan = k.core.plan; state = begin_state k.core.state d } = c.in_ok-ticket.ensures.begun
    in let events : c.store.new.events.items ≡ k.events.items ++ Begin d ∷ [] = c.store.ensures.items ∙ ap (λ xs. xs ++ Begin d ∷ []) c.reserve.ensures.items
    in record {
      sound = coe 1 0 (i. IsSoundKeeper (core i) (events i) k.bound (k.flying + 1)) (begun-sound k.core k.events.items k.bound k.flying d (ap (λ v. is_due v.plan v.state d) c.self.view_is ∙ c.requires.due) allowed c.self.invariant.sound);
      room = omega (arith, ap length events, length_push k.events.items (Begin d), c.store.new.events.ok.0, k.events.ok.0, c.reserve.new.self.ok.0, c.in_ok-reserve.ensures.ok, c.store.ensures.room);
    }
