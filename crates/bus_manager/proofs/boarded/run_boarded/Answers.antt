use Rattle.bus_manager.specs.declared.notes.Ran.{Ran}
use Rattle.bus_manager.specs.Run.{IsRun, IsRunAfter}
use Rattle.bus_manager.specs.Seen.{sees}
use Rattle.bus_manager.proofs.ResumedLemmas.{run-fresh, ok-weaker}
use Rattle.bus_manager.proofs.boarded.run_boarded.Goals as goal

pub returns-clause-ran : goal.returns-clause-ran
returns-clause-ran g c =
    let plan = c.args.plan.now
    in let attests = g.P.Prober.attests c.args.prober.now plan
    in ok-weaker (λ (ran : Ran g.row.P-Note.Denot). IsRunAfter attests (sees c.new.result) plan ran.report.items ran.notes.items)
    (λ (ran : Ran g.row.P-Note.Denot). IsRun attests plan ran.report.items ran.notes.items)
    (λ ran after. run-fresh attests c.new.result plan ran.report.items ran.notes.items c.new.ensures after) c.run_opened.result c.run_opened.ensures.ran
