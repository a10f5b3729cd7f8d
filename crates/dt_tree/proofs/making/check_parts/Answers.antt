use Rattle.std.proofs.Common.{◌≡◌, true, false, not, Some, None, if◌then◌else◌, nat_lt, arith}
use Rattle.std.proofs.lemmas.Bool.Decides.{nat_tests}
use Rattle.std.proofs.lemmas.Grind.{common_steps}
use Rattle.dt_tree.specs.declared.error.TreeError.TheVariants.{BadName, DuplicateProperty, DuplicateNode, TooDeep}
use Rattle.dt_tree.specs.Fault.{are_named}
use Rattle.dt_tree.specs.NodeData.{siblings, child_names, property_names, height_of}
use Rattle.dt_tree.specs.Sound.{are_distinct}
use Rattle.dt_tree.proofs.making.check_parts.Goals as goal

pub returns : goal.returns
returns c =
    let ps = c.args.properties.now in
    let bs = c.args.children.now in
    let named : are_named bs ≡ true = grind (arith, common_steps) in
    let apart : are_distinct (property_names ps) ≡ true = grind (arith, common_steps) in
    let others : are_distinct (child_names (siblings bs)) ≡ true = grind (arith, common_steps) in
    let low : nat_lt 64 (height_of (siblings bs)) ≡ false = grind (arith, nat_tests) in
    λ j. if not (named j) then Some BadName else (if not (apart j) then Some DuplicateProperty else (if not (others j) then Some DuplicateNode else (if low j then Some TooDeep else None)))
