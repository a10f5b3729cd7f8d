-- The numbers and names of the errors.
use Rattle.std.specs.Prelude.{ℕ, List, codes}
use Rattle.dt_blob.specs.declared.error.BlobError.{BlobError}
use Rattle.dt_blob.specs.declared.error.BlobError.TheVariants.{NoMemory, Truncated, BadMagic, BadVersion, BadLayout, BadToken, BadString, PropertyAfterNode, BadTree, TooLarge}

abbrev pub number_of : BlobError → ℕ
number_of NoMemory = 0
number_of Truncated = 30
number_of BadMagic = 31
number_of BadVersion = 32
number_of BadLayout = 33
number_of BadToken = 34
number_of BadString = 35
number_of PropertyAfterNode = 36
number_of BadTree = 37
number_of TooLarge = 38

abbrev pub name_of : BlobError → List ℕ
name_of NoMemory = codes "NoMemory"
name_of Truncated = codes "Truncated"
name_of BadMagic = codes "BadMagic"
name_of BadVersion = codes "BadVersion"
name_of BadLayout = codes "BadLayout"
name_of BadToken = codes "BadToken"
name_of BadString = codes "BadString"
name_of PropertyAfterNode = codes "PropertyAfterNode"
name_of BadTree = codes "BadTree"
name_of TooLarge = codes "TooLarge"
