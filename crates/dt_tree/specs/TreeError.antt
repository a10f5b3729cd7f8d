-- The numbers and names of the errors.
use Rattle.std.specs.Prelude.{ℕ, List, codes}
use Rattle.dt_tree.specs.declared.error.TreeError.{TreeError}
use Rattle.dt_tree.specs.declared.error.TreeError.TheVariants.{NoMemory, BadName, DuplicateProperty, DuplicateNode, TooDeep, NoSuchPath}

abbrev pub number_of : TreeError → ℕ
number_of NoMemory = 0
number_of BadName = 1
number_of DuplicateProperty = 2
number_of DuplicateNode = 3
number_of TooDeep = 4
number_of NoSuchPath = 5

abbrev pub name_of : TreeError → List ℕ
name_of NoMemory = codes "NoMemory"
name_of BadName = codes "BadName"
name_of DuplicateProperty = codes "DuplicateProperty"
name_of DuplicateNode = codes "DuplicateNode"
name_of TooDeep = codes "TooDeep"
name_of NoSuchPath = codes "NoSuchPath"
