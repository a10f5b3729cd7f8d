-- A tree's fields as contracts see them.
use Rattle.dt_tree.specs.TreeData.{TreeData}
use Rattle.dt_tree.specs.declared.tree.Tree.TheInside.{Inside}

abbrev pub tree_of : Inside → TreeData
tree_of a = record { reserves = a.reserves.items; boot_cpu = a.boot_cpu; root = a.root }
