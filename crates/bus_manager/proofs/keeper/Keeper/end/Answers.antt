use Rattle.std.proofs.Common.{◌≡◌, ◌<◌, ◌-◌, [], ◌∷◌, ◌++◌, None, length, ap, sym, ◌∙◌, arith, rules}
use Rattle.std.proofs.lemmas.List.{length_push}
use Rattle.bus_core.specs.declared.event.Event.TheVariants.{Finish}
use Rattle.bus_core.specs.Step.{finish_refusal, finish_state, finish_reply}
use Rattle.bus_manager.specs.Private.KeeperView.{IsSoundKeeper}
use Rattle.bus_manager.specs.Private.Seen.{IsSeenAfter}
use Rattle.bus_manager.proofs.Steps.{finished-sound}
use Rattle.bus_manager.proofs.keeper.Keeper.end.Goals as goal

pub invariant_of-self-2 : goal.invariant_of-self-2
invariant_of-self-2 c =
    let t = c.args.ticket.now
    in let r = c.args.report.now
    in let k = c.self.inside
    in let events : c.append.new.items.items ≡ k.events.items ++ Finish t.device r ∷ [] = c.append.ensures.items
    in let within : t.device < length k.core.plan = omega (arith, c.requires, ap (λ v. length v.plan) c.self.view_is)
    in let allowed : finish_refusal k.core.plan k.core.state t r ≡ None = sym c.in_ok-reply.ensures.refused
    in let core : c.finish.new.self ≡ record { plan = k.core.plan; state = finish_state k.core.plan k.core.state t.device r } = c.in_ok-reply.ensures.finished
    in let reply : c.in_ok-reply.reply ≡ finish_reply k.core.plan (finish_state k.core.plan k.core.state t.device r) t.device r = c.in_ok-reply.ensures.reply ∙ ap (λ v. finish_reply v.plan v.state t.device r) core
    in let bound : IsSeenAfter k.bound c.note_reply.new.bound t.device (finish_reply k.core.plan (finish_state k.core.plan k.core.state t.device r) t.device r) = coe 0 1 (i. IsSeenAfter k.bound c.note_reply.new.bound t.device (reply i)) c.note_reply.ensures
    in record {
      sound = coe 1 0 (i. IsSoundKeeper (core i) (events i) c.note_reply.new.bound (k.flying - 1)) (finished-sound k.core k.events.items k.bound c.note_reply.new.bound k.flying t r within allowed bound c.self.invariant.sound);
      room = omega (arith, ap length events, length_push k.events.items (Finish t.device r), c.append.new.items.ok.0, k.events.ok.0, c.self.invariant.room, c.append.ensures.room);
    }

pub returns-clause-finished : goal.returns-clause-finished
returns-clause-finished c =
    let new = Finish c.args.ticket.now.device c.args.report.now
    in let events : c.append.new.items.items ≡ c.self.inside.events.items ++ new ∷ [] = c.append.ensures.items
    in search rules
