use Rattle.std.proofs.Common.{length, ap, ◌∙◌, arith}
use Rattle.bus_core.specs.History.{is_settled}
use Rattle.bus_manager.specs.declared.notes.Ran.{Ran}
use Rattle.bus_manager.specs.Run.{IsRunAfter, IsRunOf}
use Rattle.bus_manager.specs.Seen.{sees}
use Rattle.bus_manager.proofs.ResumedLemmas.{run-of, ok-weaker}
use Rattle.bus_manager.proofs.resumed.run_resumed.Goals as goal

pub returns-clause-ran : goal.returns-clause-ran
returns-clause-ran g c =
    let attests = g.P.Prober.attests c.args.prober.now
    in let plan = c.in_ok-plan.plan
    in let core = c.args.core
    in let before = sees c.settled_devices-before.result
    in ok-weaker (λ (ran : Ran g.row.P-Note.Denot). IsRunAfter (attests plan) before plan ran.report.items ran.notes.items)
    (λ (ran : Ran g.row.P-Note.Denot). IsRunOf (attests core.plan) core ran.report.items ran.notes.items)
    (λ ran after. run-of attests before plan core ran.report.items ran.notes.items (c.in_ok-plan.ensures.plan ∙ c.drop_flights.ensures.plan)
    (λ d within. c.settled_devices-before.ensures d (omega (arith, within, ap length c.drop_flights.ensures.plan)) ∙ ap (λ h. is_settled h d) c.drop_flights.ensures.history) after)
    c.run_opened.result c.run_opened.ensures.ran
