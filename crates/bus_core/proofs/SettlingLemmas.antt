-- A device in flight, and one that is ready too: what the parts of a core say of it.
use Rattle.std.proofs.Common.{◌≡◌, ℕ, ◌<◌, ◌≤◌, true, false, cond, List, Option, Result, Ok, Err, length, refl, ap, sym, ◌∙◌, arith}
use Rattle.std.specs.Prelude.{is_some, is_none, OnOk, OnErr}
use Rattle.std.specs.Result.{result_err}
use Rattle.bus_plan.specs.declared.verdict.Verdict.{Verdict}
use Rattle.bus_plan.specs.Plan.{verdict_of}
use Rattle.bus_core.specs.declared.phase.Phase.{Phase}
use Rattle.bus_core.specs.declared.phase.Phase.TheVariants.{Fresh, Begun, InFlight, Bound, Failed}
use Rattle.bus_core.specs.declared.refusal.Refusal.{Refusal}
use Rattle.bus_core.specs.declared.settle.Outcome.{Outcome}
use Rattle.bus_core.specs.declared.state.Core.TheInside.{Inside}
use Rattle.bus_core.specs.CoreState.{CoreValue, flight_of, is_in_flight}
use Rattle.bus_core.specs.History.{outcome_by, bound_in}
use Rattle.bus_core.specs.Ready.{is_ready}
use Rattle.bus_core.specs.RefinementPhase.{phase_at, flight_in, bound_by}
use Rattle.bus_core.specs.RefinementView.{core_value, IsKept}
use Rattle.bus_core.proofs.SoundLemmas.{bound-same, flight-phase, flying-phase}
use Rattle.bus_core.proofs.CountedLemmas.{flying-counts}

pub record IsFlying (core : Inside) (d : ℕ) : Type 0 where
  pub within : d < length core.plan
  pub inside : d < length core.phases.items
  pub flying : is_some (flight_in (phase_at core.phases.items d)) ≡ true
  pub some : 1 ≤ core.flights

pub in-flight : (core : Inside) (v : CoreValue) (d : ℕ) → core_value core ≡ v → IsKept core → d < length v.plan → is_in_flight v.state d ≡ true → IsFlying core d
in-flight core v d view kept below is_flying = record {
  within = within;
  inside = inside;
  flying = flying;
  some = flying-counts core.plan core.phases.items core.history.items core.begins d core.missing.items core.due core.flights inside flying kept.counted;
}
  where
    within : d < length core.plan
    within = omega (arith, below, ap (λ x. length x.plan) view)

    inside : d < length core.phases.items
    inside = omega (arith, within, kept.sound.places)

    flying : is_some (flight_in (phase_at core.phases.items d)) ≡ true
    flying = flying-phase core.phases.items core.history.items core.begins d ((λ i. is_in_flight (view i).state d) ∙ is_flying)

-- what the phases say of readiness is what the history says
pub ready-same : (core : Inside) (v : CoreValue) (d : ℕ) → core_value core ≡ v → IsKept core → is_ready core.plan (bound_by core.phases.items) d ≡ is_ready v.plan (bound_in v.state.history) d
ready-same core v d view kept =
    ap (λ b. is_ready core.plan b d) (bound-same core.plan core.phases.items core.history.items core.begins kept.sound)
    ∙ (λ i. is_ready (view i).plan (bound_in (view i).state.history) d)

pub record IsSettling (core : Inside) (d : ℕ) (o : Outcome) : Type 0 where
  pub within : d < length core.plan
  pub inside : d < length core.phases.items
  pub flying : is_some (flight_in (phase_at core.phases.items d)) ≡ true
  pub ready : is_ready core.plan (bound_by core.phases.items) d ≡ true
  pub outcome_is : o ≡ outcome_by (verdict_of core.plan d)
  pub some : 1 ≤ core.flights

pub settling : (core : Inside) (v : CoreValue) (d : ℕ) (verdict : Verdict) → core_value core ≡ v → IsKept core
    → d < length v.plan → is_in_flight v.state d ≡ true → is_ready v.plan (bound_in v.state.history) d ≡ true → verdict_of v.plan d ≡ verdict
    → IsSettling core d (outcome_by verdict)
settling core v d verdict view kept below is_flying is_due says =
    let flight = in-flight core v d view kept below is_flying in
    record {
      within = flight.within;
      inside = flight.inside;
      flying = flight.flying;
      ready = ready-same core v d view kept ∙ is_due;
      outcome_is = sym (ap outcome_by ((λ i. verdict_of (view i).plan d) ∙ says));
      some = flight.some;
    }

-- a phase that isn't in flight has no flight
pub no-flight : (phase : Phase) → ((attempt settled : ℕ) → phase ≡ InFlight attempt settled → ⊥) → is_some (flight_in phase) ≡ false
no-flight Fresh apart = refl
no-flight Begun apart = refl
no-flight (InFlight attempt settled) apart = absurd (apart attempt settled refl)
no-flight (Bound place) apart = refl
no-flight Failed apart = refl

-- the flight of a device whose phase is read
pub flight-read : (core : Inside) (v : CoreValue) (d : ℕ) (phases : List Phase) (phase : Phase) → core_value core ≡ v → phases ≡ core.phases.items → phase ≡ phase_at phases d
    → flight_of v.state d ≡ flight_in phase
flight-read core v d phases phase view all is =
    sym (λ i. flight_of (view i).state d) ∙ flight-phase core.phases.items core.history.items core.begins d ∙ ap flight_in (sym (is ∙ ap (λ x. phase_at x d) all))

-- what a call that may be refused leaves
pub step-left : {A : Type 0} (result : Result A Refusal) (refusal : Option Refusal) (done old new : CoreValue)
    → result_err result ≡ refusal → OnOk result (new ≡ done) → OnErr result (new ≡ old) → new ≡ cond (is_none refusal) done old
step-left (Ok answer) refusal done old new says ok err = ok ∙ (λ i. cond (is_none (says i)) done old)
step-left (Err e) refusal done old new says ok err = err ∙ (λ i. cond (is_none (says i)) done old)
