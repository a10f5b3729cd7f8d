use Rattle.bus_manager.proofs.ResumedLemmas.{refused-memory}
use Rattle.bus_manager.proofs.resumed.opened.Goals as goal

pub returns-in-Err-clause-err : goal.returns-in-Err-clause-err
returns-in-Err-clause-err c = refused-memory c.args.core.state c.in-Err.refusal c.requires c.in-Err.ensures.err.1
