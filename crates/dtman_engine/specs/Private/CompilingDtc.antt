-- What the parts of compiling in dtc's language answer.
use Rattle.std.specs.Prelude.{◌≡◌, ℕ, List, Option, Some, None}
use Rattle.dt_text.specs.declared.lexeme.lexeme.ReadError.{ReadError}
use Rattle.dt_text.specs.declared.lexeme.lexeme.ReadError.TheVariants.{NoMemory, Refused}
use Rattle.dt_tree.specs.PathMap.{TreeMap}
use Rattle.dt_build.specs.BuiltByDtc.{booting}
use Rattle.dtman_engine.specs.CompileDtc.{lacking}
use Rattle.dtman_engine.specs.Fault.{FaultValue, no_memory}

-- the file that isn't there is told, or that memory is wanted
abbrev pub TellsLack : List ℕ → ReadError → FaultValue → Type 0
TellsLack text NoMemory fault = fault ≡ no_memory
TellsLack text (Refused refusal) fault = fault ≡ lacking text refusal

-- the same tree, whose system boots on the processor that is named
abbrev pub boots_on : Option ℕ → TreeMap → TreeMap
boots_on None m = m
boots_on (Some n) m = booting n m
