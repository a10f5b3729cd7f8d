-- What the plan of the held tree is, its text is printed; a text that isn't made wants memory.
use Rattle.std.proofs.Common.{◌≡◌, subst, ap, sym, inl, ℕ, List, Result, Ok, Err, MatchResult}
use Rattle.dt_tree.specs.TreeData.{TreeData}
use Rattle.bus_plan.specs.Plan.{PlannedDevice}
use Rattle.bus_plan.specs.PlanText.{text_of}
use Rattle.dtman_engine.specs.declared.fault.Fault.{Fault}
use Rattle.dtman_engine.specs.Fault.{fault_value, no_memory}
use Rattle.dtman_engine.specs.Plan.{planning, printed, CannotPlan}
use Rattle.dtman_engine.specs.declared.culprit.BlobRole.TheVariants.{Sole}
use Rattle.dtman_engine.proofs.CulpritLemmas.{held-word}
use Rattle.dtman_engine.proofs.planning.plan_bytes.Goals as goal

printed-held : {V : Type 0} (r : Result V Fault) (items : V → List ℕ) (tree : TreeData) (drivers : List ℕ) (plan : List PlannedDevice)
    → planning tree drivers ≡ Ok plan → MatchResult r (λ text. items text ≡ text_of plan) (λ fault. fault_value fault ≡ no_memory)
    → MatchResult r (λ text. printed (planning tree drivers) ≡ Ok (items text)) (λ fault. CannotPlan tree drivers (fault_value fault))
printed-held (Ok text) items tree drivers plan is h = subst (λ (l : List ℕ). printed (planning tree drivers) ≡ Ok l) (sym h) (ap printed is)
printed-held (Err fault) items tree drivers plan is h = inl h

pub returns-clause-held : goal.returns-clause-held
returns-clause-held c =
    λ tree held.
    printed-held c.text_of.result (λ text. text.items) tree c.args.drivers.now c.in_ok-plan.plan (c.in_ok-plan.ensures.held tree held) c.text_of.ensures.made

pub returns-clause-word : goal.returns-clause-word
returns-clause-word c =
    let planned = c.in_ok-plan.ensures.answer in
    held-word Sole c.args.blob.now planned.tree c.text_of.result planned.held c.text_of.ensures.word
