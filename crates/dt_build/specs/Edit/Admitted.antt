-- A child is let into the tree, before the statements of its body (Devicetree Specification v0.4, section 6.3).
use Rattle.std.specs.Prelude.{ℕ, List, [], ◌∷◌, ◌++◌, Result, Ok}
use Rattle.dt_tree.specs.Steps.{then_do}
use Rattle.dt_source.specs.TreeMeaning.Paths.{Path}
use Rattle.dt_source.specs.TreeMeaning.Syntax.{Piece}
use Rattle.dt_source.specs.TreeMeaning.Edits.{State, with_node}
use Rattle.dt_source.specs.TreeMeaning.Statements.{Fault, Progress, unless, give_labels, child_fault}

-- the child has its labels and stands, or the first fault
abbrev pub admitted : List (List ℕ) → List ℕ → Path → Progress (List Piece) → Result (State (List Piece)) Fault
admitted ls n p x = then_do (give_labels ls (p ++ n ∷ []) x.state) (λ s. unless (child_fault p n x.children s) (Ok (with_node (p ++ n ∷ []) s)))
