-- Where there is a plan, what its run gives or refuses is said of it.
use Rattle.std.proofs.Common.{◌≡◌, inr, ℕ, List, Result, Ok, Err, IfOk, IfErr, MatchResult}
use Rattle.dt_tree.specs.TreeData.{TreeData}
use Rattle.bus_plan.specs.Plan.{PlannedDevice}
use Rattle.dtman_engine.specs.declared.fault.Fault.{Fault}
use Rattle.dtman_engine.specs.Fault.{fault_value}
use Rattle.dtman_engine.specs.Plan.{planning, IsPlanned}
use Rattle.dtman_engine.specs.Probe.{CannotProbe, IsProbeRefusal}
use Rattle.dtman_engine.specs.RunFaults.{CannotRun}
use Rattle.dtman_engine.specs.declared.culprit.BlobRole.TheVariants.{Sole}
use Rattle.dtman_engine.proofs.CulpritLemmas.{held-word}
use Rattle.dtman_engine.proofs.probing.probe_bytes.Goals as goal

unrun : {V : Type 0} (blob drivers : List ℕ) (workers : ℕ) (plan : List PlannedDevice) (Good : V → Type 0) (r : Result V Fault)
    → IsPlanned blob drivers plan → MatchResult r Good (λ fault. CannotRun workers (fault_value fault)) → IfErr r (λ fault. IsProbeRefusal blob drivers workers (fault_value fault))
unrun blob drivers workers plan Good (Ok ran) planned h = tt
unrun blob drivers workers plan Good (Err fault) planned h = inr (record { plan = plan; planned = planned; cannot = h })

pub returns-clause-refused : goal.returns-clause-refused
returns-clause-refused g c =
    unrun c.args.blob.now c.args.drivers.now c.args.workers c.in_ok-plan.plan _ c.plan_run.result c.in_ok-plan.ensures.answer c.plan_run.ensures.run

run-held : {V : Type 0} (Good Wanted : V → Type 0) (r : Result V Fault) (tree : TreeData) (drivers : List ℕ) (workers : ℕ) (plan : List PlannedDevice)
    → planning tree drivers ≡ Ok plan → MatchResult r Good (λ fault. CannotRun workers (fault_value fault)) → ((v : V) → Good v → Wanted v)
    → MatchResult r Wanted (λ fault. CannotProbe tree drivers workers (fault_value fault))
run-held Good Wanted (Ok ran) tree drivers workers plan is h turn = turn ran h
run-held Good Wanted (Err fault) tree drivers workers plan is h turn = inr (plan, is, h)

pub returns-clause-held : goal.returns-clause-held
returns-clause-held g c =
    λ tree held.
    run-held _ _ c.plan_run.result tree c.args.drivers.now c.args.workers c.in_ok-plan.plan (c.in_ok-plan.ensures.held tree held) c.plan_run.ensures.run
    (λ ran run. record { plan = c.in_ok-plan.plan; is_planned = c.in_ok-plan.ensures.held tree held; run = run })

run-probes : {V : Type 0} (Good Wanted : V → Type 0) (Bad : Fault → Type 0) (r : Result V Fault) → MatchResult r Good Bad → ((v : V) → Good v → Wanted v) → IfOk r Wanted
run-probes Good Wanted Bad (Ok ran) h turn = turn ran h
run-probes Good Wanted Bad (Err fault) h turn = tt

pub returns-clause-answer : goal.returns-clause-answer
returns-clause-answer g c =
    run-probes _ _ _ c.plan_run.result c.plan_run.ensures.run (λ ran run. record { plan = c.in_ok-plan.plan; planned = c.in_ok-plan.ensures.answer; run = run })

pub returns-clause-word : goal.returns-clause-word
returns-clause-word g c =
    let planned = c.in_ok-plan.ensures.answer in
    held-word Sole c.args.blob.now planned.tree c.plan_run.result planned.held c.plan_run.ensures.word
