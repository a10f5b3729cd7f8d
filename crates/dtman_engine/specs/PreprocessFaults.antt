-- The faults of a text that goes through the preprocessor.
use Rattle.dt_preprocess.specs.declared.refusal.Reason.{Reason}
use Rattle.dt_preprocess.specs.Reason.{number_of, name_of}
use Rattle.dtman_engine.specs.Fault.{FaultValue}
use Rattle.dtman_engine.specs.declared.fault.Position.TheVariants.{Nowhere}

abbrev pub preprocess_fault : Reason → FaultValue
preprocess_fault reason = record { number = number_of reason; name = name_of reason; position = Nowhere }
