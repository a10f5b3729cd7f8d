-- How contracts see a core, and what holds of its fields.
use Rattle.std.specs.Prelude.{◌≤◌, length, vec_capacity}
use Rattle.bus_core.specs.declared.state.Core.TheInside.{Inside}
use Rattle.bus_core.specs.CoreState.{CoreValue, with_names}
use Rattle.bus_core.specs.RefinementPhase.{state_of}
use Rattle.bus_core.specs.RefinementCounts.{IsCounted}
use Rattle.bus_core.specs.RefinementSound.{IsSound}

abbrev pub core_value : Inside → CoreValue
core_value core =
    record { plan = core.plan; state = with_names (state_of core.phases.items core.history.items core.begins) core.registered }

pub record IsKept (core : Inside) : Type 0 where
  pub sound : IsSound core.plan core.phases.items core.history.items core.begins
  pub counted : IsCounted core.plan (state_of core.phases.items core.history.items core.begins) core.missing.items core.due core.flights
  pub room : length core.plan ≤ vec_capacity core.history
