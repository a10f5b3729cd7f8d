-- What a caller gets that opens a board from a plan file.
use Rattle.std.specs.Prelude.{◌≡◌, ◌⊎◌, ℕ, List, length, Option, Some, None, Ok, Err}
use Rattle.bus_plan.specs.Plan.{PlannedDevice}
use Rattle.bus_plan.specs.PlanFile.{reading}
use Rattle.bus_plan.specs.declared.error.PlanError.{PlanError}
use Rattle.bus_board.specs.Seats.Calls.{IsOpened}
use Rattle.bus_board.specs.Seats.Shown.{Placed}
use Rattle.dtman_engine.specs.Fault.{FaultValue, no_memory}
use Rattle.dtman_engine.specs.TextFaults.{text_fault}
use Rattle.dtman_c.specs.Crossing.{refused, written}
use Rattle.dtman_c.specs.declared.answer.Answer.{Answer}

-- the handle to be filled isn't empty
abbrev pub occupied : Answer
occupied = record { status = 6; number = 0; length = 0; line = 0; byte = 0; event = 0 }

-- the file says this plan
abbrev pub IsPlanOf : List ℕ → List PlannedDevice → Type 0
IsPlanOf text plan = reading text ≡ Ok plan

-- the fault is the file's first, or memory is wanted
abbrev pub IsNoPlan : List ℕ → FaultValue → Type 0
IsNoPlan text fault = (fault ≡ no_memory) ⊎ ((error : PlanError) × (reading text ≡ Err error) × (fault ≡ text_fault error))

-- a board of the plan has its first seat, or memory is wanted
abbrev pub OpensPlan : List PlannedDevice → Option Placed → Answer → Type 0
OpensPlan plan after told = (IsOpened plan after × (told ≡ written (length plan))) ⊎ ((after ≡ None) × (told ≡ refused no_memory))

-- what an empty handle gets of a plan file
abbrev pub OpensFile : List ℕ → Option Placed → Answer → Type 0
OpensFile text after told =
    ((plan : List PlannedDevice) × IsPlanOf text plan × OpensPlan plan after told)
    ⊎ ((after ≡ None) × ((fault : FaultValue) × IsNoPlan text fault × (told ≡ refused fault)))

abbrev pub Opens : List ℕ → Option Placed → Option Placed → Answer → Type 0
Opens text None after told = OpensFile text after told
Opens text (Some p) after told = (told ≡ occupied) × (after ≡ Some p)
