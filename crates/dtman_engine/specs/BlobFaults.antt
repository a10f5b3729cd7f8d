-- The faults of a blob.
use Rattle.dt_blob.specs.declared.error.BlobError.{BlobError}
use Rattle.dt_blob.specs.BlobError.{number_of, name_of}
use Rattle.dtman_engine.specs.Fault.{FaultValue}
use Rattle.dtman_engine.specs.declared.fault.Position.TheVariants.{Nowhere}

abbrev pub blob_fault : BlobError → FaultValue
blob_fault error = record { number = number_of error; name = name_of error; position = Nowhere }
