-- Where a core was replayed, what its run refuses is said of it.
use Rattle.std.proofs.Common.{◌≡◌, inr, ℕ, List, Result, Ok, Err, IfErr, MatchResult, sym, subst}
use Rattle.bus_core.specs.CoreState.{CoreValue}
use Rattle.dtman_engine.specs.declared.fault.Fault.{Fault}
use Rattle.dtman_engine.specs.Fault.{FaultValue, fault_value}
use Rattle.dtman_engine.specs.RunFaults.{CannotRun}
use Rattle.dtman_engine.specs.Replay.{replaying}
use Rattle.dtman_engine.specs.ReplayRun.{CannotGoOn, IsReplayRunRefusal}
use Rattle.dtman_engine.proofs.replay_run.replay_run_bytes.Goals as goal

unrun : {V : Type 0} (plan_file schedule : List ℕ) (workers : ℕ) (core : CoreValue) (Good : V → Type 0) (r : Result V Fault)
    → replaying plan_file schedule ≡ Ok core → MatchResult r Good (λ fault. CannotRun workers (fault_value fault))
    → IfErr r (λ fault. IsReplayRunRefusal plan_file schedule workers (fault_value fault))
unrun plan_file schedule workers core Good (Ok ran) replayed h = tt
unrun plan_file schedule workers core Good (Err fault) replayed h =
    inr (subst (λ (r : Result CoreValue FaultValue). CannotGoOn r workers (fault_value fault)) (sym replayed) h)

pub returns-clause-refused : goal.returns-clause-refused
returns-clause-refused g c =
    unrun c.args.plan.now c.args.schedule.now c.args.workers c.in_ok-core.core _ c.core_run.result c.in_ok-core.ensures c.core_run.ensures.run
