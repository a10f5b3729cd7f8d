-- The faults of a source, and of the tree that is built of it.
use Rattle.std.specs.Prelude.{ℕ, List, ◌==◌, if◌then◌else◌}
use Rattle.dt_source.specs.declared.place.Place.{Place}
use Rattle.dt_source.specs.declared.error.SourceErrorKind.{SourceErrorKind}
use Rattle.dt_source.specs.declared.error.SourceErrorKind.TheVariants.{NoMemory}
use Rattle.dt_source.specs.SourceError as source
use Rattle.dt_build.specs.declared.resolve.error.BuildError.{BuildError}
use Rattle.dt_build.specs.declared.resolve.error.BuildErrorKind.{BuildErrorKind}
use Rattle.dt_build.specs.Resolve.BuildError as build
use Rattle.dt_source.specs.Places.{place_at}
use Rattle.dtman_engine.specs.Fault.{FaultValue}
use Rattle.dtman_engine.specs.declared.fault.Position.{Position}
use Rattle.dtman_engine.specs.declared.fault.Position.TheVariants.{Nowhere, At, Within}

-- want of memory has no place
abbrev pub source_position : SourceErrorKind → Place → Position
source_position NoMemory place = Nowhere
source_position _ place = At place

-- of a source's text
abbrev pub source_fault : SourceErrorKind → Place → FaultValue
source_fault kind place = record { number = source.number_of kind; name = source.name_of kind; position = source_position kind place }

-- of what a source says
abbrev pub build_fault : BuildErrorKind → FaultValue
build_fault kind = record { number = build.number_of kind; name = build.name_of kind; position = Nowhere }

-- where in a text it is; want of memory and what the compiler makes have no place
abbrev pub build_position : List ℕ → BuildError → Position
build_position text error = if error.at == 0 then Nowhere else Within (place_at text error.at)
