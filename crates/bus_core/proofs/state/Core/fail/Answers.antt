use Rattle.std.proofs.Common.{◌≡◌, ◌-◌, ℕ, Bool, cond, length, set, refl, ap, sym, ◌∙◌, arith}
use Rattle.bus_core.specs.CoreState.{with_names}
use Rattle.bus_core.specs.RefinementCounts.{IsCounted}
use Rattle.bus_core.specs.declared.event.Report.TheVariants.{Settled}
use Rattle.bus_core.specs.declared.phase.Phase.TheVariants.{Failed}
use Rattle.bus_core.specs.declared.settle.Outcome.TheVariants as outcome
use Rattle.bus_core.specs.RefinementPhase.{phase_at, state_of}
use Rattle.bus_core.specs.RefinementSound.{IsSound}
use Rattle.bus_core.specs.Step.{finish_state}
use Rattle.bus_core.proofs.SettlingLemmas.{settling}
use Rattle.bus_core.proofs.SoundLemmas.{settled-sound, settled-view}
use Rattle.bus_core.proofs.CountedLemmas.{flying-out, flying-unbound, moved-counted}
use Rattle.bus_core.proofs.state.Core.fail.Goals as goal

abbrev one_or_none : Bool → ℕ
one_or_none b = cond b 1 0

pub overflow_sub-self : goal.overflow_sub-self
overflow_sub-self c =
    let now = settling c.self.inside _ c.args.device _ c.self.view_is c.self.invariant c.requires.within c.requires.flying c.requires.ready c.requires.fails in
    now.some

pub invariant_of-self : goal.invariant_of-self
invariant_of-self c =
    let now = settling c.self.inside _ c.args.device _ c.self.view_is c.self.invariant c.requires.within c.requires.flying c.requires.ready c.requires.fails in
    let sound : (e : ℕ) → e ≡ c.args.device → IsSound c.self.inside.plan (set c.self.inside.phases.items e (Failed)) c.push_in_room.new.list.items c.self.inside.begins =
    λ e same. settled-sound c.self.inside.plan c.self.inside.phases.items c.self.inside.history.items c.self.inside.begins c.args.device e (length c.self.inside.history.items) outcome.Failed (Failed) c.push_in_room.new.list.items
    same now.within now.flying now.ready now.outcome_is refl refl c.push_in_room.ensures.items c.self.invariant.sound
    in record {
      sound = sound c.index.result c.index.ensures;
      counted =
          coe 1 0 (i. IsCounted c.self.inside.plan (state_of (set c.self.inside.phases.items (c.index.ensures i) Failed) c.push_in_room.new.list.items c.self.inside.begins)
          c.self.inside.missing.items c.self.inside.due (c.self.inside.flights - 1))
          (moved-counted c.self.inside.plan c.self.inside.phases.items c.self.inside.history.items c.push_in_room.new.list.items c.self.inside.begins c.self.inside.begins c.args.device Failed
          c.self.inside.missing.items c.self.inside.due c.self.inside.due c.self.inside.flights (c.self.inside.flights - 1)
          now.inside c.self.invariant.sound (sound c.args.device refl) (sym (flying-unbound (phase_at c.self.inside.phases.items c.args.device) now.flying))
          (flying-out c.self.inside.plan c.self.inside.phases.items c.self.inside.history.items c.self.inside.begins c.args.device c.self.inside.missing.items c.self.inside.due c.self.inside.flights c.self.invariant.sound now.flying c.self.invariant.counted)
          (omega (arith, now.some, ap one_or_none now.flying)) c.self.invariant.counted);
      room = omega (arith, c.push_in_room.ensures.room, c.self.invariant.room);
    }

pub returns : goal.returns
returns c =
    let now = settling c.self.inside _ c.args.device _ c.self.view_is c.self.invariant c.requires.within c.requires.flying c.requires.ready c.requires.fails in
    (λ i. record {
      plan = c.self.inside.plan;
      state = with_names (settled-view c.self.inside.plan c.self.inside.phases.items c.self.inside.history.items c.self.inside.begins c.args.device c.index.result (length c.self.inside.history.items)
          outcome.Failed (Failed) c.push_in_room.new.list.items c.index.ensures now.inside now.flying now.outcome_is refl c.push_in_room.ensures.items i) c.self.inside.registered;
    })
    ∙ (λ i. record { plan = (c.self.view_is i).plan; state = finish_state (c.self.view_is i).plan (c.self.view_is i).state c.args.device Settled })
