use Rattle.std.proofs.Common.{◌≡◌, None, Some}
use Rattle.bus_manager.specs.declared.run_error.RunError.TheVariants.{TooManyWorkers}
use Rattle.dtman_engine.specs.Fault.{fault_value}
use Rattle.dtman_engine.proofs.RunLemmas.{not-run}
use Rattle.dtman_engine.proofs.replay_run.core_run.Goals as goal

pub returns-in-Ok-clause-many : goal.returns-in-Ok-clause-many
returns-in-Ok-clause-many g c = λ too. let none : None ≡ Some TooManyWorkers = c.in-Ok.ensures.many.1 too in cc

pub returns-in-Err-clause-run : goal.returns-in-Err-clause-run
returns-in-Err-clause-run g c = not-run c.args.workers c.in-Err.error (fault_value c.from.result) c.from.ensures.0 c.in-Err.ensures.many
