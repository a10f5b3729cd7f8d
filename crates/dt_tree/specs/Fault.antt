-- Why properties and children make no node.
use Rattle.std.specs.Prelude.{Bool, true, false, not, ◌==◌, List, [], ◌∷◌, length, Option, Some, None, if◌then◌else◌, nat_lt}
use Rattle.dt_tree.specs.declared.error.TreeError.{TreeError}
use Rattle.dt_tree.specs.declared.error.TreeError.TheVariants.{BadName, DuplicateProperty, DuplicateNode, TooDeep}
use Rattle.dt_tree.specs.Limits.{depth_limit}
use Rattle.dt_tree.specs.declared.property.Property.{Property}
use Rattle.dt_tree.specs.NodeData.{NodeData, siblings, child_names, property_names, height_of}
use Rattle.dt_tree.specs.Sound.{are_distinct}

abbrev pub is_named : NodeData → Bool
is_named b = not (length b.name == 0)

abbrev pub are_named : List NodeData → Bool
are_named [] = true
are_named (b ∷ bs) = if is_named b then are_named bs else false

-- the first of four faults
abbrev pub fault_of : List Property → List NodeData → Option TreeError
fault_of ps bs =
    if not (are_named bs) then Some BadName
    else (if not (are_distinct (property_names ps)) then Some DuplicateProperty
    else (if not (are_distinct (child_names (siblings bs))) then Some DuplicateNode
    else (if nat_lt depth_limit (height_of (siblings bs)) then Some TooDeep else None)))
