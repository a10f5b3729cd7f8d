-- A fault of the node at a place.
use Rattle.std.specs.Prelude.{ℕ}
use Rattle.dt_check.specs.Fault.{FaultData}

pub record LinkFaultData : Type 0 where
  pub node : ℕ
  pub fault : FaultData

abbrev pub at_node : ℕ → FaultData → LinkFaultData
at_node node f = record { node = node; fault = f }
