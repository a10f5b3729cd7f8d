use Rattle.std.proofs.Common.{◌∙◌, ap}
use Rattle.bus_manager.specs.Notes.{has_settled}
use Rattle.bus_manager.proofs.ResumedLemmas.{status-settled}
use Rattle.bus_manager.proofs.resumed.is_settled.Goals as goal

pub returns : goal.returns
returns c = c.has_settled.ensures ∙ ap has_settled c.status.ensures ∙ status-settled c.args.core.now.plan c.args.core.now.state c.args.device
