use Rattle.std.proofs.Common.{◌≡◌, ◌<◌, ◌-◌, ℕ, false, cond, length, get_or, set, subst, refl, ap, sym, ◌∙◌, arith}
use Rattle.std.proofs.lemmas.List.{with_items_is}
use Rattle.bus_plan.specs.Consumers.{has_supplier}
use Rattle.bus_core.specs.CoreState.{with_names}
use Rattle.bus_core.specs.RefinementCounts.{due_with, IsCounted}
use Rattle.bus_core.specs.declared.event.Report.TheVariants.{Settled}
use Rattle.bus_core.specs.declared.phase.Phase.TheVariants.{Bound}
use Rattle.bus_core.specs.declared.settle.Outcome.TheVariants as outcome
use Rattle.bus_core.specs.RefinementPhase.{phase_at, state_of}
use Rattle.bus_core.specs.RefinementSound.{IsSound}
use Rattle.bus_core.specs.Step.{finish_state}
use Rattle.bus_core.proofs.SettlingLemmas.{settling}
use Rattle.bus_core.proofs.SoundLemmas.{settled-sound, settled-view}
use Rattle.bus_core.proofs.CountedLemmas.{bind-waits, bind-counted}
use Rattle.bus_core.proofs.state.Core.bind.Goals as goal

pub overflow_sub-self : goal.overflow_sub-self
overflow_sub-self c =
    let now = settling c.self.inside _ c.args.device _ c.self.view_is c.self.invariant c.requires.within c.requires.flying c.requires.ready c.requires.binds in
    now.some

pub lower-requires-clause-counted : goal.lower-requires-clause-counted
lower-requires-clause-counted c e has =
    let now = settling c.self.inside _ c.args.device _ c.self.view_is c.self.invariant c.requires.within c.requires.flying c.requires.ready c.requires.binds in
    (let P : ℕ → Type 0 = λ k. 0 < k in subst P (sym (ap (λ x. get_or x e 0) c.deref_mut.ensures.value)))
    (bind-waits c.self.inside.plan c.self.inside.phases.items c.self.inside.history.items c.self.inside.begins c.args.device c.self.inside.missing.items c.self.inside.due c.self.inside.flights c.check.ensures.apart c.self.invariant.sound now.flying c.self.invariant.counted e has)

pub invariant_of-self : goal.invariant_of-self
invariant_of-self c =
    let now = settling c.self.inside _ c.args.device _ c.self.view_is c.self.invariant c.requires.within c.requires.flying c.requires.ready c.requires.binds in
    let sound : (e : ℕ) → e ≡ c.args.device → IsSound c.self.inside.plan (set c.self.inside.phases.items e (Bound c.len.result)) c.push_in_room.new.list.items c.self.inside.begins =
    λ e same. settled-sound c.self.inside.plan c.self.inside.phases.items c.self.inside.history.items c.self.inside.begins c.args.device e c.len.result outcome.Bound (Bound c.len.result) c.push_in_room.new.list.items
    same now.within now.flying now.ready now.outcome_is refl (c.len.ensures ∙ c.self.inside.history.ok.0) c.push_in_room.ensures.items c.self.invariant.sound
    in let same : length c.lower.new.missing ≡ length c.self.inside.missing.items = omega (arith, c.lower.auto.missing, ap (λ x. length x) c.deref_mut.ensures.value)
    in let kept : length c.lower.new.missing ≡ c.self.inside.missing.len = omega (arith, same, c.self.inside.missing.ok.0)
    in record {
      sound = sound c.index.result c.index.ensures;
      counted =
          coe 1 0 (i. IsCounted c.self.inside.plan (state_of (set c.self.inside.phases.items (c.index.ensures i) (Bound c.len.result)) c.push_in_room.new.list.items c.self.inside.begins)
          (with_items_is c.self.inside.missing c.lower.new.missing kept i) c.lower.new.due (c.self.inside.flights - 1))
          (bind-counted c.self.inside.plan c.self.inside.phases.items c.self.inside.history.items c.push_in_room.new.list.items c.self.inside.begins c.args.device c.len.result
          c.self.inside.missing.items c.lower.new.missing c.self.inside.due c.lower.new.due c.self.inside.flights (c.self.inside.flights - 1)
          c.check.ensures.apart now.inside now.flying c.self.invariant.sound (sound c.args.device refl) same
          (λ e. c.lower.ensures.missing e ∙ ap (λ m. cond (has_supplier c.self.inside.plan e c.args.device) (get_or m e 0 - 1) (get_or m e 0)) c.deref_mut.ensures.value)
          c.lower.ensures.places
          (λ e. c.lower.ensures.due e ∙ ap (λ p. cond (has_supplier c.self.inside.plan e c.args.device) (due_with c.self.inside.plan e (phase_at p e) (get_or c.lower.new.missing e 0)) (get_or c.self.inside.due e false))
          (c.deref.ensures.value ∙ (λ i. set c.self.inside.phases.items (c.index.ensures i) (Bound c.len.result))))
          (omega (arith, now.some)) c.self.invariant.counted);
      room = omega (arith, c.push_in_room.ensures.room, c.self.invariant.room);
    }

pub returns : goal.returns
returns c =
    let now = settling c.self.inside _ c.args.device _ c.self.view_is c.self.invariant c.requires.within c.requires.flying c.requires.ready c.requires.binds in
    (λ i. record {
      plan = c.self.inside.plan;
      state = with_names (settled-view c.self.inside.plan c.self.inside.phases.items c.self.inside.history.items c.self.inside.begins c.args.device c.index.result c.len.result
          outcome.Bound (Bound c.len.result) c.push_in_room.new.list.items c.index.ensures now.inside now.flying now.outcome_is refl c.push_in_room.ensures.items i) c.self.inside.registered;
    })
    ∙ (λ i. record { plan = (c.self.view_is i).plan; state = finish_state (c.self.view_is i).plan (c.self.view_is i).state c.args.device Settled })
