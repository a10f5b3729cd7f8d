-- The number and the name of each refusal of the preprocessor.
use Rattle.std.specs.Prelude.{ℕ, List, codes}
use Rattle.dt_preprocess.specs.declared.refusal.Reason.{Reason}
use Rattle.dt_preprocess.specs.declared.refusal.Reason.TheVariants.{NoMemory, NoFile, TooDeep, TooManyTokens, TooLong, OpenComment, Unserved, Directive, Condition, Call, Conditional, Error}

abbrev pub number_of : Reason → ℕ
number_of NoMemory = 0
number_of NoFile = 83
number_of TooDeep = 84
number_of TooManyTokens = 85
number_of TooLong = 86
number_of OpenComment = 87
number_of Unserved = 88
number_of Directive = 89
number_of Condition = 90
number_of Call = 91
number_of Conditional = 92
number_of Error = 93

abbrev pub name_of : Reason → List ℕ
name_of NoMemory = codes "NoMemory"
name_of NoFile = codes "NoHeader"
name_of TooDeep = codes "NestedTooDeep"
name_of TooManyTokens = codes "TooManyTokens"
name_of TooLong = codes "TextTooLong"
name_of OpenComment = codes "OpenComment"
name_of Unserved = codes "Unserved"
name_of Directive = codes "BadDirective"
name_of Condition = codes "BadCondition"
name_of Call = codes "BadCall"
name_of Conditional = codes "BadConditional"
name_of Error = codes "ErrorDirective"
