-- What a tree's refusal is to the reader of a blob.
use Rattle.dt_tree.specs.declared.error.TreeError.{TreeError}
use Rattle.dt_tree.specs.declared.error.TreeError.TheVariants as tree
use Rattle.dt_blob.specs.declared.error.BlobError.{BlobError}
use Rattle.dt_blob.specs.declared.error.BlobError.TheVariants.{NoMemory, BadTree}

abbrev pub fault_of_tree : TreeError → BlobError
fault_of_tree tree.NoMemory = NoMemory
fault_of_tree tree.BadName = BadTree
fault_of_tree tree.DuplicateProperty = BadTree
fault_of_tree tree.DuplicateNode = BadTree
fault_of_tree tree.TooDeep = BadTree
fault_of_tree tree.NoSuchPath = BadTree
