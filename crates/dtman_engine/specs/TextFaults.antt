-- The faults of a text file of the bus.
use Rattle.std.specs.Prelude.{ℕ, Option, Some, None}
use Rattle.bus_plan.specs.declared.error.PlanError.{PlanError}
use Rattle.bus_plan.specs.PlanError.{number_of, name_of, line_of}
use Rattle.dtman_engine.specs.Fault.{FaultValue}
use Rattle.dtman_engine.specs.declared.fault.Position.{Position}
use Rattle.dtman_engine.specs.declared.fault.Position.TheVariants.{Nowhere, Line}

abbrev pub line_position : Option ℕ → Position
line_position None = Nowhere
line_position (Some line) = Line line

abbrev pub text_fault : PlanError → FaultValue
text_fault error = record { number = number_of error; name = name_of error; position = line_position (line_of error) }
