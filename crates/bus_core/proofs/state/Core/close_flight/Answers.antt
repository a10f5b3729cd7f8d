use Rattle.std.proofs.Common.{◌≡◌, ◌-◌, ℕ, Bool, cond, set, refl, ap, sym, ◌∙◌, arith}
use Rattle.bus_core.specs.declared.phase.Phase.TheVariants.{Begun}
use Rattle.bus_core.specs.RefinementPhase.{phase_at, bound_by, state_of}
use Rattle.bus_core.specs.CoreState.{with_names}
use Rattle.bus_core.specs.Ready.{is_ready}
use Rattle.bus_core.specs.RefinementCounts.{IsCounted}
use Rattle.bus_core.specs.Step.{without_flight}
use Rattle.bus_core.proofs.SettlingLemmas.{in-flight, ready-same}
use Rattle.bus_core.proofs.SoundLemmas.{landed-sound, landed-view}
use Rattle.bus_core.proofs.CountedLemmas.{flying-unbound, moved-counted}
use Rattle.bus_core.proofs.state.Core.close_flight.Goals as goal

abbrev zero_or_one : Bool → ℕ
zero_or_one b = cond b 1 0

pub overflow_sub-self : goal.overflow_sub-self
overflow_sub-self c =
    let now = in-flight c.self.inside _ c.args.device c.self.view_is c.self.invariant c.requires.within c.requires.flying in
    now.some

pub invariant_of-self : goal.invariant_of-self
invariant_of-self c =
    let now = in-flight c.self.inside _ c.args.device c.self.view_is c.self.invariant c.requires.within c.requires.flying in
    let ready : c.is_ready-is_ready.result ≡ is_ready c.self.inside.plan (bound_by c.self.inside.phases.items) c.args.device =
    c.is_ready-is_ready.ensures ∙ sym (ready-same c.self.inside _ c.args.device c.self.view_is c.self.invariant)
    in record {
      sound = landed-sound c.self.inside.plan c.self.inside.phases.items c.self.inside.history.items c.self.inside.begins c.args.device c.index.result c.index.ensures now.within now.flying c.self.invariant.sound;
      counted =
          coe 1 0 (i. IsCounted c.self.inside.plan (state_of (set c.self.inside.phases.items (c.index.ensures i) Begun) c.self.inside.history.items c.self.inside.begins)
          c.self.inside.missing.items c.put.new.self (c.self.inside.flights - 1))
          (moved-counted c.self.inside.plan c.self.inside.phases.items c.self.inside.history.items c.self.inside.history.items c.self.inside.begins c.self.inside.begins c.args.device Begun
          c.self.inside.missing.items c.self.inside.due c.put.new.self c.self.inside.flights (c.self.inside.flights - 1)
          now.inside c.self.invariant.sound (landed-sound c.self.inside.plan c.self.inside.phases.items c.self.inside.history.items c.self.inside.begins c.args.device c.args.device refl now.within now.flying c.self.invariant.sound)
          (sym (flying-unbound (phase_at c.self.inside.phases.items c.args.device) now.flying))
          (c.put.ensures ∙ ap (set c.self.inside.due c.args.device) ready)
          (omega (arith, now.some, ap zero_or_one now.flying)) c.self.invariant.counted);
      room = c.self.invariant.room;
    }

pub returns : goal.returns
returns c =
    let now = in-flight c.self.inside _ c.args.device c.self.view_is c.self.invariant c.requires.within c.requires.flying in
    (λ i. record {
      plan = c.self.inside.plan;
      state = with_names (landed-view c.self.inside.phases.items c.self.inside.history.items c.self.inside.begins c.args.device c.index.result c.index.ensures now.inside now.flying i)
          c.self.inside.registered;
    })
    ∙ (λ i. record { plan = (c.self.view_is i).plan; state = without_flight (c.self.view_is i).state c.args.device })
