-- A child has fewer nodes than its parent.
use Rattle.std.specs.Prelude.{◌+◌, ◌≤◌, List, [], ◌∷◌}
use Rattle.std.proofs.Common.{arith}
use denote.Param.Weighed.{most}
use Rattle.dt_tree.specs.NodeData.{NodeData, siblings, siblings_size, node_size}

pub most_le-siblings_size : (kids : List NodeData) → most (λ k. node_size k + 1) kids ≤ siblings_size (siblings kids) + 1
most_le-siblings_size [] = omega arith
most_le-siblings_size (k ∷ ks) = omega (arith, most_le-siblings_size ks)
