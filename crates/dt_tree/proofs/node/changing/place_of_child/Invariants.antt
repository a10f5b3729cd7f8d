use Rattle.std.proofs.Common.{◌≡◌, ◌+◌, drop}
use Rattle.std.specs.Option.{option_map}
use Rattle.dt_tree.specs.NodeData.{child_names, siblings}
use Rattle.dt_tree.specs.Private.Edits.{place_of}
use Rattle.dt_tree.proofs.node.changing.place_of_child.Given as goal

abbrev pub invariant-loop-at : goal.invariant-loop-at
invariant-loop-at l = option_map (λ j. l.at + j) (place_of (child_names (siblings (drop l.at l.children))) l.name) ≡ place_of (child_names (siblings l.children)) l.name
