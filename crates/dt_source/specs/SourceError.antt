-- The numbers and names of what parsing refuses.
use Rattle.std.specs.Prelude.{ℕ, List, codes}
use Rattle.dt_source.specs.declared.error.SourceErrorKind.{SourceErrorKind}
use Rattle.dt_source.specs.declared.error.SourceErrorKind.TheVariants as kinds
use Rattle.dt_text.specs.declared.lexeme.lexeme.FaultKind.{FaultKind}
use Rattle.dt_text.specs.declared.lexeme.lexeme.FaultKind.TheVariants.{ElementRange, DivideByZero, BadBits, LiteralRange, BadEscape}
use Rattle.dt_text.specs.declared.lexeme.lexeme.RefusalKind.{RefusalKind}
use Rattle.dt_text.specs.declared.lexeme.lexeme.RefusalKind.TheVariants.{Syntax, TooDeep}

abbrev pub number_of : SourceErrorKind → ℕ
number_of kinds.NoMemory = 0
number_of kinds.Syntax = 10
number_of kinds.ElementRange = 11
number_of kinds.DivideByZero = 12
number_of kinds.BadBits = 13
number_of kinds.LiteralRange = 14
number_of kinds.BadEscape = 15
number_of kinds.TooDeep = 16
number_of kinds.TooLong = 17

abbrev pub name_of : SourceErrorKind → List ℕ
name_of kinds.NoMemory = codes "NoMemory"
name_of kinds.Syntax = codes "Syntax"
name_of kinds.ElementRange = codes "ElementRange"
name_of kinds.DivideByZero = codes "DivideByZero"
name_of kinds.BadBits = codes "BadBits"
name_of kinds.LiteralRange = codes "LiteralRange"
name_of kinds.BadEscape = codes "BadEscape"
name_of kinds.TooDeep = codes "TooDeep"
name_of kinds.TooLong = codes "TooLong"

-- the refusal of a fault
abbrev pub kind_of_fault : FaultKind → SourceErrorKind
kind_of_fault ElementRange = kinds.ElementRange
kind_of_fault DivideByZero = kinds.DivideByZero
kind_of_fault BadBits = kinds.BadBits
kind_of_fault LiteralRange = kinds.LiteralRange
kind_of_fault BadEscape = kinds.BadEscape

-- the refusal of a text that isn't in the grammar
abbrev pub kind_of_refusal : RefusalKind → SourceErrorKind
kind_of_refusal Syntax = kinds.Syntax
kind_of_refusal TooDeep = kinds.TooDeep
