-- The refusal of a source that isn't whole with all that it takes in: by a source's error, or as a file can't be read.
use Rattle.std.specs.Prelude.{Option, None, Some}
use Rattle.dt_text.specs.declared.include.inclusion.Incomplete.{Incomplete}
use Rattle.dt_text.specs.declared.include.inclusion.Incomplete.TheVariants as incomplete
use Rattle.dt_text.specs.declared.include.site.Site.{Site}
use Rattle.dt_source.specs.declared.error.SourceErrorKind.{SourceErrorKind}
use Rattle.dt_source.specs.declared.error.SourceErrorKind.TheVariants.{Syntax, TooDeep, TooLong}
use Rattle.dt_source.specs.SourceError.{name_of, number_of}
use Rattle.dtman_engine.specs.Fault.{FaultValue, cannot_read, no_memory}
use Rattle.dtman_engine.specs.declared.fault.Position.{Position}
use Rattle.dtman_engine.specs.declared.fault.Position.TheVariants.{Line, Nowhere}

-- the user's line of words that take a file in, where they are known
abbrev pub line_of : Option Site → Position
line_of None = Nowhere
line_of (Some site) = Line site.line

-- a source's error at such words
abbrev pub told_at : SourceErrorKind → Option Site → FaultValue
told_at kind site = record { number = number_of kind; name = name_of kind; position = line_of site }

-- what is told: a text that is too long has no line, as all that it takes in makes it so
abbrev pub short_fault : Incomplete → Option Site → FaultValue
short_fault incomplete.NoMemory site = no_memory
short_fault (incomplete.NoFile name) site = cannot_read
short_fault incomplete.TooDeep site = told_at TooDeep site
short_fault incomplete.TooLong site = told_at TooLong None
short_fault incomplete.Syntax site = told_at Syntax site
