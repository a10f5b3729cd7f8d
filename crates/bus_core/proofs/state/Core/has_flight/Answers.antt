use Rattle.std.proofs.Common.{ℕ, ap, ◌∙◌}
use Rattle.std.specs.Prelude.{is_some, nat_lt}
use Rattle.bus_core.specs.Parting.{has_flight}
use Rattle.bus_core.specs.RefinementPhase.{state_of}
use Rattle.bus_core.proofs.PartingLemmas.{counted_any}
use Rattle.bus_core.proofs.state.Core.has_flight.Goals as goal

pub returns : goal.returns
returns c =
    let s = state_of c.self.inside.phases.items c.self.inside.history.items c.self.inside.begins in
    ap (λ (n : ℕ). nat_lt 0 n) c.self.invariant.counted.flights_is ∙ counted_any is_some s.flights ∙ (λ i. has_flight (c.self.view_is i).state)
