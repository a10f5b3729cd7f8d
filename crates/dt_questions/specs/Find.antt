-- The nodes that have what is asked for, in preorder, each as a line with its path.
use Rattle.std.specs.Prelude.{ℕ, ◌+◌, if◌then◌else◌, List, [], ◌∷◌, ◌++◌}
use Rattle.dt_check.specs.Nodes.{PlacedData}
use Rattle.dt_questions.specs.declared.question.Question.{Question}
use Rattle.dt_questions.specs.Paths.{path_at}
use Rattle.dt_questions.specs.Question.{fits}

-- the line of the node at this place, if it fits
abbrev pub found_at : List PlacedData → Question → ℕ → PlacedData → List ℕ
found_at nodes question place p = if fits question p.node.properties then path_at nodes place ++ 10 ∷ [] else []

-- the lines of these nodes, the first of which has this place
abbrev pub found_from : List PlacedData → Question → ℕ → List PlacedData → List ℕ
found_from nodes question place [] = []
found_from nodes question place (p ∷ ps) = found_at nodes question place p ++ found_from nodes question (place + 1) ps

abbrev pub found : List PlacedData → Question → List ℕ
found nodes question = found_from nodes question 0 nodes
