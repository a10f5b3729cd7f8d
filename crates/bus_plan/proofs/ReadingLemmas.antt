-- What a plan file is read as, by its lines' devices.
use Rattle.std.proofs.Common.{◌≡◌, ◌∙◌, ◌⊎◌, inl, inr, ⊎_elim, ap, sym, ℕ, List, [], ◌++◌, length}
use Rattle.std.specs.Prelude.{Some, None, Result, Ok, Err, IfOk, IfErr}
use Rattle.bus_plan.specs.declared.error.PlanError.{PlanError}
use Rattle.bus_plan.specs.declared.error.PlanError.TheVariants.{NoMemory}
use Rattle.bus_plan.specs.Lines.{lines}
use Rattle.bus_plan.specs.Plan.{PlannedDevice}
use Rattle.bus_plan.specs.PlanFile.{devices_before, strings_before, faults_before, late_faults_before, plan_of, first_or, reading, Answers}
use Rattle.bus_plan.specs.Private.Reading.{Listed, listed_before, late_fault}
use Rattle.bus_plan.proofs.LateFaults.{late-none, late-some}

-- what n lines without a fault are read as
abbrev read_to : List (List ℕ) → ℕ → Result (List PlannedDevice) PlanError
read_to ls n = first_or (late_faults_before (devices_before ls n) ls n) (plan_of (devices_before ls n) (strings_before ls n))

reading-by : (text : List ℕ) → faults_before (lines text) (length (lines text)) ≡ [] → reading text ≡ read_to (lines text) (length (lines text))
reading-by text none =
    let ls = lines text in
    let n = length ls in
    ap (λ k. first_or (k ++ late_faults_before (devices_before ls n) ls n) (plan_of (devices_before ls n) (strings_before ls n))) none

-- what is answered once the lines are read
pub answered : (text : List ℕ) (l : Listed) (r : Result (List PlannedDevice) PlanError)
    → l ≡ listed_before (lines text) (length (lines text)) → faults_before (lines text) (length (lines text)) ≡ []
    → IfOk r (λ plan. (plan ≡ plan_of l.devices l.lists) × (late_fault l ≡ None)) → IfErr r (λ e. (e ≡ NoMemory) ⊎ (late_fault l ≡ Some e)) → Answers (reading text) r
answered text l (Ok plan) are none ok err =
    let ls = lines text in
    let n = length ls in
    let late : late_faults_before (devices_before ls n) ls n ≡ [] = late-none ls n (ap late_fault (sym are) ∙ ok.1) in
    reading-by text none ∙ ap (λ k. first_or k (plan_of (devices_before ls n) (strings_before ls n))) late
    ∙ ap (λ k. Ok (plan_of k.devices k.lists)) (sym are) ∙ ap Ok (sym ok.0)
answered text l (Err e) are none ok err =
    let ls = lines text in
    let n = length ls in
    ⊎_elim (λ memory. inl memory)
    (λ fault. let late = late-some ls n e (ap late_fault (sym are) ∙ fault) in
    inr (reading-by text none ∙ ap (λ k. first_or k (plan_of (devices_before ls n) (strings_before ls n))) late.1)) err
