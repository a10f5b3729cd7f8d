-- What a blob and a driver file plan: the plan of the tree that the bytes hold and of the drivers that the file says, or the first
-- fault, the blob's before the file's and that before the plan's.
use Rattle.std.specs.Prelude.{◌≡◌, ℕ, List, Result, Ok, Err, ◌⊎◌, MatchResult}
use Rattle.dt_tree.specs.TreeData.{TreeData}
use Rattle.dt_tree.specs.NodeData.{NodeData}
use Rattle.dt_blob.specs.Holds.{Holds}
use Rattle.bus_plan.specs.declared.error.PlanError.{PlanError}
use Rattle.bus_plan.specs.Plan.{PlannedDevice}
use Rattle.bus_plan.specs.PlanText.{text_of}
use Rattle.bus_drivers.specs.Driver.{DriverSetData}
use Rattle.bus_drivers.specs.DriverFile.{reading}
use Rattle.bus_drivers.specs.TreePlan.{plan_of}
use Rattle.dtman_engine.specs.Dump.{IsUnread}
use Rattle.dtman_engine.specs.declared.fault.Fault.{Fault}
use Rattle.dtman_engine.specs.Fault.{Answer, FaultValue, fault_value, no_memory}
use Rattle.dtman_engine.specs.TextFaults.{text_fault}

abbrev pub after_drivers : NodeData → Result DriverSetData PlanError → Result (List PlannedDevice) PlanError
after_drivers root (Ok set) = plan_of root set
after_drivers root (Err e) = Err e

-- what a tree and a driver file plan
abbrev pub planning : TreeData → List ℕ → Result (List PlannedDevice) PlanError
planning tree drivers = after_drivers tree.root (reading drivers)

-- the text of a plan, where there is one
abbrev pub printed : Result (List PlannedDevice) PlanError → Result (List ℕ) PlanError
printed (Ok plan) = Ok (text_of plan)
printed (Err e) = Err e

-- the plan of a tree that the bytes hold
pub record IsPlanned (blob drivers : List ℕ) (plan : List PlannedDevice) : Type 0 where
  pub tree : TreeData
  pub held : Holds blob tree
  pub planned : planning tree drivers ≡ Ok plan

-- the text of such a plan
pub record IsPlanText (blob drivers text : List ℕ) : Type 0 where
  pub plan : List PlannedDevice
  pub planned : IsPlanned blob drivers plan
  pub text_is : text ≡ text_of plan

-- ---- refusals
-- the driver file or the plan of a tree that is held has this first fault
pub record IsUnplanned (planned : Result (List PlannedDevice) PlanError) (fault : FaultValue) : Type 0 where
  pub error : PlanError
  pub refused : planned ≡ Err error
  pub told : fault ≡ text_fault error

pub record IsUnplannedTree (blob drivers : List ℕ) (fault : FaultValue) : Type 0 where
  pub tree : TreeData
  pub held : Holds blob tree
  pub unplanned : IsUnplanned (planning tree drivers) fault

-- why there is no plan of a tree: memory is wanted, or the first fault
abbrev pub CannotPlan : TreeData → List ℕ → FaultValue → Type 0
CannotPlan tree drivers fault = (fault ≡ no_memory) ⊎ IsUnplanned (planning tree drivers) fault

-- the answer to a tree and a driver file: the plan, or why there is none
abbrev pub Plans : TreeData → List ℕ → Result (List PlannedDevice) Fault → Type 0
Plans tree drivers given = MatchResult given (λ plan. planning tree drivers ≡ Ok plan) (λ fault. CannotPlan tree drivers (fault_value fault))

-- the answer to them in bytes: the plan's text, or why there is none
abbrev pub PrintsPlan : TreeData → List ℕ → Answer → Type 0
PrintsPlan tree drivers given =
    MatchResult given (λ text. printed (planning tree drivers) ≡ Ok text.items) (λ fault. CannotPlan tree drivers (fault_value fault))

-- why there is no plan at all
abbrev pub IsPlanRefusal : List ℕ → List ℕ → FaultValue → Type 0
IsPlanRefusal blob drivers fault = (fault ≡ no_memory) ⊎ IsUnread blob fault ⊎ IsUnplannedTree blob drivers fault
