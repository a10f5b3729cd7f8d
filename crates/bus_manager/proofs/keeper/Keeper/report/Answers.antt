use Rattle.std.proofs.Common.{◌≡◌, subst}
use Rattle.std.specs.Prelude.{IfOk}
use Rattle.bus_core.specs.Report.{report_text}
use Rattle.bus_manager.specs.Keeper.{KeeperValue}
use Rattle.bus_manager.proofs.keeper.Keeper.report.Goals as goal

pub returns-clause-text : goal.returns-clause-text
returns-clause-text c =
    subst (λ (k : KeeperValue). IfOk c.report.result (λ text. text.items ≡ report_text k.plan k.state)) c.self.view_is
    c.report.ensures.text
