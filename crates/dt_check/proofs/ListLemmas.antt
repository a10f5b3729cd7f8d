-- Lists of nodes.
use Rattle.std.proofs.Common.{◌≡◌, ap, refl, List, [], ◌∷◌}
use Rattle.dt_tree.specs.NodeData.{NodeData, siblings, nodes_of}

pub nodes_of-siblings : (bs : List NodeData) → nodes_of (siblings bs) ≡ bs
nodes_of-siblings [] = refl
nodes_of-siblings (b ∷ bs) = ap (λ (xs : List NodeData). b ∷ xs) (nodes_of-siblings bs)
