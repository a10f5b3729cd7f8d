-- Steps from node to node, and how many nodes end between the two (Devicetree Specification v0.4, section 5.4.2).
use Rattle.std.specs.Prelude.{◌≡◌, ℕ, suc, ◌+◌, ◌<◌, List, [], ◌∷◌, Some, Result, IsOkAnd}
use Rattle.dt_tree.specs.NodeData.{Siblings, none, more}
use Rattle.dt_patch.specs.declared.view.error.ViewError.{ViewError}
use Rattle.dt_patch.specs.declared.view.stepping.Step.{Step}
use Rattle.dt_patch.specs.declared.view.stepping.Step.TheVariants as step
use Rattle.dt_patch.specs.declared.view.view.View.{View}
use Rattle.dt_patch.specs.View.Order.{IsNext, nodes_left}

-- how many nodes end before the first of these begins, level by level
abbrev pub ended : List Siblings → ℕ
ended [] = 0
ended (none ∷ fs) = suc (ended fs)
ended (more name ps children rest ∷ fs) = 0

-- a node is one deeper than the one it stands in
abbrev pub IsStep : View → Step → ℕ → List Siblings → Type 0
IsStep view (step.Node place deep) depth fs = IsNext view (Some place) (nodes_left fs) × (deep + ended fs ≡ depth + 1)
IsStep view (step.Out at) depth fs = depth < ended fs
IsStep view (step.Over left) depth fs = (nodes_left fs ≡ []) × (left + ended fs ≡ depth)

abbrev pub TellsStep : View → Result Step ViewError → ℕ → List Siblings → Type 0
TellsStep view answer depth fs = IsOkAnd answer (λ s. IsStep view s depth fs)
