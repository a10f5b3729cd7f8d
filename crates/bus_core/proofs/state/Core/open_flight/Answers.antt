use Rattle.std.proofs.Common.{◌≡◌, ◌<◌, ◌+◌, true, length, set, refl, ap, sym, ◌∙◌, arith}
use Rattle.bus_core.specs.declared.limits.TheConstants.{MAX_BEGINS}
use Rattle.bus_core.specs.declared.phase.Phase.TheVariants.{InFlight}
use Rattle.bus_core.specs.CoreState.{with_names}
use Rattle.bus_core.specs.Due.{is_idle}
use Rattle.bus_core.specs.RefinementPhase.{phase_at, idle_in, state_of}
use Rattle.bus_core.specs.RefinementCounts.{IsCounted}
use Rattle.bus_core.specs.Step.{begin_state}
use Rattle.bus_core.proofs.SoundLemmas.{idle-same, begun-sound, begun-view}
use Rattle.bus_core.proofs.CountedLemmas.{idle-unbound, idle-landed, idle-room, moved-counted}
use Rattle.bus_core.proofs.state.Core.open_flight.Goals as goal

pub overflow_add-self-2 : goal.overflow_add-self-2
overflow_add-self-2 c =
    let within : c.args.device < length c.self.inside.plan = omega (arith, c.requires.within, ap (λ v. length v.plan) c.self.view_is)
    in let inside : c.args.device < length c.self.inside.phases.items = omega (arith, within, c.self.invariant.sound.places)
    in let idle : idle_in (phase_at c.self.inside.phases.items c.args.device) ≡ true =
    idle-same c.self.inside.plan c.self.inside.phases.items c.self.inside.history.items c.self.inside.begins c.self.invariant.sound c.args.device ∙ (λ i. is_idle (c.self.view_is i).state c.args.device) ∙ c.requires.idle
    in omega (arith, idle-room c.self.inside.plan c.self.inside.phases.items c.self.inside.history.items c.self.inside.begins c.args.device c.self.inside.missing.items c.self.inside.due c.self.inside.flights inside idle c.self.invariant.counted, c.self.inside.phases.ok.0, c.self.inside.phases.small)

pub invariant_of-self : goal.invariant_of-self
invariant_of-self c =
    let within : c.args.device < length c.self.inside.plan = omega (arith, c.requires.within, ap (λ v. length v.plan) c.self.view_is)
    in let inside : c.args.device < length c.self.inside.phases.items = omega (arith, within, c.self.invariant.sound.places)
    in let idle : idle_in (phase_at c.self.inside.phases.items c.args.device) ≡ true =
    idle-same c.self.inside.plan c.self.inside.phases.items c.self.inside.history.items c.self.inside.begins c.self.invariant.sound c.args.device ∙ (λ i. is_idle (c.self.view_is i).state c.args.device) ∙ c.requires.idle
    in let few : c.self.inside.begins < MAX_BEGINS = omega (arith, c.requires.few, ap (λ v. v.state.begins) c.self.view_is)
    in record {
      sound = begun-sound c.self.inside.plan c.self.inside.phases.items c.self.inside.history.items c.self.inside.begins c.args.device c.index.result c.len.result c.index.ensures within idle few c.self.invariant.sound;
      counted =
          coe 1 0 (i. IsCounted c.self.inside.plan (state_of (set c.self.inside.phases.items (c.index.ensures i) (InFlight (c.self.inside.begins + 1) c.len.result)) c.self.inside.history.items (c.self.inside.begins + 1))
          c.self.inside.missing.items c.remove.new.self (c.self.inside.flights + 1))
          (moved-counted c.self.inside.plan c.self.inside.phases.items c.self.inside.history.items c.self.inside.history.items c.self.inside.begins (c.self.inside.begins + 1) c.args.device
          (InFlight (c.self.inside.begins + 1) c.len.result)
          c.self.inside.missing.items c.self.inside.due c.remove.new.self c.self.inside.flights (c.self.inside.flights + 1)
          inside c.self.invariant.sound (begun-sound c.self.inside.plan c.self.inside.phases.items c.self.inside.history.items c.self.inside.begins c.args.device c.args.device c.len.result refl within idle few c.self.invariant.sound)
          (sym (idle-unbound (phase_at c.self.inside.phases.items c.args.device) idle)) c.remove.ensures
          (omega (arith, idle-landed (phase_at c.self.inside.phases.items c.args.device) idle)) c.self.invariant.counted);
      room = c.self.invariant.room;
    }

pub returns-clause-begun : goal.returns-clause-begun
returns-clause-begun c =
    (λ i. record {
      plan = c.self.inside.plan;
      state = with_names (begun-view c.self.inside.phases.items c.self.inside.history.items c.self.inside.begins c.args.device c.index.result c.len.result
          c.index.ensures (c.len.ensures ∙ c.self.inside.history.ok.0) i) c.self.inside.registered;
    })
    ∙ (λ i. record { plan = (c.self.view_is i).plan; state = begin_state (c.self.view_is i).state c.args.device })
