use Rattle.std.proofs.Common.{◌≡◌, true, false, ap, sym, ◌∙◌}
use Rattle.bus_core.specs.Due.{is_quiet}
use Rattle.bus_core.specs.History.{IsBusHistory}
use Rattle.bus_core.specs.Report.{report_text}
use Rattle.bus_manager.proofs.Ended.{run-ended}
use Rattle.bus_manager.proofs.alone.end_alone.Goals as goal

pub returns-clause-ran : goal.returns-clause-ran
returns-clause-ran g c =
    let plan = c.args.plan.now
    in let k = c.drain.new.keeper
    in let same = c.drain.ensures.plan
    in let steps : IsBusHistory plan k.state.history = coe 0 1 (i. IsBusHistory ((c.core.ensures.plan ∙ same) i) (c.core.ensures.state i).history) c.check.ensures
    in let quiet : is_quiet plan k.state ≡ true = ap (λ p. is_quiet p k.state) (sym same) ∙ c.in_ok-drain.ensures.quiet
    in let text : c.in_ok-report.report.items ≡ report_text plan k.state = c.in_ok-report.ensures.text ∙ ap (λ p. report_text p k.state) same
    in run-ended (g.P.Prober.attests c.args.prober.now plan) (λ d. false) plan k.state c.in_ok-report.report.items c.settle_notes.new.notes.items steps quiet text c.settle_notes.ensures.notes c.settle_notes.ensures.noted
