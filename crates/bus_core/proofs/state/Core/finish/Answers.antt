use Rattle.std.proofs.Common.{◌≡◌, not, cond, true, Some, ap, sym, ◌∙◌, eq-eqb}
use Rattle.bus_core.specs.declared.refusal.Refusal.TheVariants.{StaleTicket}
use Rattle.bus_core.specs.CoreState.{flight_of, with_state}
use Rattle.bus_core.specs.RefinementPhase.{flight_in}
use Rattle.bus_core.specs.Step.{is_attempt, report_refusal, finish_refusal, finish_state}
use Rattle.std.specs.Result.{result_err}
use Rattle.bus_core.proofs.SettlingLemmas.{flight-read, step-left}
use Rattle.bus_core.proofs.state.Core.finish.Goals as goal
use Rattle.bus_core.proofs.state.Core.finish.Goals.{After-land}

refused : (c : After-land) → result_err c.land.result ≡ finish_refusal c.args.self.now.plan c.args.self.now.state c.args.ticket.now c.args.report
refused c =
    let own : is_attempt (flight_of c.args.self.now.state c.args.ticket.now.device) c.args.ticket.now.attempt ≡ true =
    ap (λ flight. is_attempt flight c.args.ticket.now.attempt)
    (flight-read c.self.inside c.args.self.now c.args.ticket.now.device c.deref.result.now c.phase_of.result c.self.view_is c.deref.ensures.value c.phase_of.ensures
    ∙ ap flight_in c.in-InFlight.is)
    ∙ eq-eqb c.in-InFlight.attempt c.args.ticket.now.attempt c.if-attempt-ticket.true
    in c.land.ensures.refused
    ∙ sym (ap (λ b. cond (not b) (Some StaleTicket) (report_refusal c.args.self.now.plan c.args.self.now.state c.args.ticket.now.device c.args.report)) own)

pub returns-in-InFlight-clause-refused : goal.returns-in-InFlight-clause-refused
returns-in-InFlight-clause-refused c = refused c

pub returns-in-InFlight-clause-step : goal.returns-in-InFlight-clause-step
returns-in-InFlight-clause-step c =
    step-left c.land.result (finish_refusal c.args.self.now.plan c.args.self.now.state c.args.ticket.now c.args.report)
    (with_state c.args.self.now (finish_state c.args.self.now.plan c.args.self.now.state c.args.ticket.now.device c.args.report)) c.args.self.now c.land.new.self
    (refused c) c.land.ensures.finished c.land.ensures.err
