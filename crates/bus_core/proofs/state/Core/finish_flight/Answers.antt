use Rattle.std.proofs.Common.{◌≡◌, not, cond, false, Some, refl, ap, sym, ◌∙◌}
use Rattle.std.specs.Prelude.{is_some}
use Rattle.bus_core.specs.declared.refusal.Refusal.TheVariants.{NotInFlight}
use Rattle.bus_core.specs.CoreState.{is_in_flight}
use Rattle.bus_core.specs.Step.{report_refusal}
use Rattle.bus_core.proofs.SettlingLemmas.{no-flight, flight-read}
use Rattle.bus_core.proofs.state.Core.finish_flight.Goals as goal

pub returns-in_default : goal.returns-in_default
returns-in_default c =
    let landed : is_in_flight c.args.self.now.state c.args.device ≡ false =
    ap is_some (flight-read c.self.inside c.args.self.now c.args.device c.deref.result.now c.phase_of.result c.self.view_is c.deref.ensures.value c.phase_of.ensures)
    ∙ no-flight c.phase_of.result c.in_default.not-InFlight
    in record {
      refused = sym (ap (λ b. cond (not b) (Some NotInFlight) (report_refusal c.args.self.now.plan c.args.self.now.state c.args.device c.args.report)) landed);
      taken = tt;
      err = refl;
    }
