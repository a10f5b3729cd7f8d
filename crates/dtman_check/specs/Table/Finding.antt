-- A mistake that a check found: the check by its place in the table, the node by its place in preorder.
use Rattle.std.specs.Prelude.{ℕ, List, Option, Some, None}
use Rattle.dt_check.specs.declared.message.Message.{Message}
use Rattle.dt_check.specs.declared.message.Message.TheVariants.{Prerequisite}
use Rattle.dt_check.specs.Fault.{FaultData}

pub record FindingData : Type 0 where
  pub check : ℕ
  pub node : Option ℕ
  pub property : Option (List ℕ)
  pub message : Message

abbrev pub finding : ℕ → ℕ → FaultData → FindingData
finding check node f = record { check = check; node = Some node; property = f.property; message = f.message }

-- a prerequisite of the check didn't pass
abbrev pub failed_prerequisite : ℕ → ℕ → FindingData
failed_prerequisite check needed = record { check = check; node = None; property = None; message = Prerequisite needed }
