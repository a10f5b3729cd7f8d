-- What the lines of a plan file list.
use Rattle.std.specs.Prelude.{ℕ, List}
use Rattle.bus_plan.specs.declared.matching.Matching.{Matching}

-- a device as its line gives it: the line's number, from 1, and suppliers that are paths yet
pub record DeviceLine : Type 0 where
  pub number : ℕ
  pub path : List ℕ
  pub matching : Matching
  pub suppliers : List (List ℕ)

-- the strings by which a late driver may match the device at a path
pub record StringsLine : Type 0 where
  pub number : ℕ
  pub path : List ℕ
  pub strings : List (List ℕ)
