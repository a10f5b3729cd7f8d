-- The number, the name and the line of each refusal.
use Rattle.std.specs.Prelude.{ℕ, List, Option, Some, None, codes}
use Rattle.bus_plan.specs.declared.error.PlanError.{PlanError}
use Rattle.bus_plan.specs.declared.error.PlanError.TheVariants.{NoMemory, BadLine, DuplicateDriver, DuplicateDevice, UnknownPath, DanglingPhandle, BadSpecifier, TooManyDevices}

abbrev pub number_of : PlanError → ℕ
number_of NoMemory = 0
number_of (BadLine n) = 50
number_of (DuplicateDriver n) = 51
number_of (DuplicateDevice n) = 52
number_of (UnknownPath n) = 53
number_of DanglingPhandle = 54
number_of BadSpecifier = 55
number_of TooManyDevices = 56

abbrev pub name_of : PlanError → List ℕ
name_of NoMemory = codes "NoMemory"
name_of (BadLine n) = codes "BadLine"
name_of (DuplicateDriver n) = codes "DuplicateDriver"
name_of (DuplicateDevice n) = codes "DuplicateDevice"
name_of (UnknownPath n) = codes "UnknownPath"
name_of DanglingPhandle = codes "DanglingPhandle"
name_of BadSpecifier = codes "BadSpecifier"
name_of TooManyDevices = codes "TooManyDevices"

-- the line at fault, from 1
abbrev pub line_of : PlanError → Option ℕ
line_of NoMemory = None
line_of (BadLine n) = Some n
line_of (DuplicateDriver n) = Some n
line_of (DuplicateDevice n) = Some n
line_of (UnknownPath n) = Some n
line_of DanglingPhandle = None
line_of BadSpecifier = None
line_of TooManyDevices = None
