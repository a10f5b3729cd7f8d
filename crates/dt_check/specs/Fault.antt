-- What is wrong with a node, or with its property of this name.
use Rattle.std.specs.Prelude.{ℕ, List, Option, Some, None}
use Rattle.dt_check.specs.declared.message.Message.{Message}

pub record FaultData : Type 0 where
  pub property : Option (List ℕ)
  pub message : Message

abbrev pub of_node : Message → FaultData
of_node m = record { property = None; message = m }

abbrev pub of_property : List ℕ → Message → FaultData
of_property name m = record { property = Some name; message = m }
