-- What a caller gets of a step.
use Rattle.std.specs.Prelude.{◌≡◌, ℕ, List, Result, Ok, Err}
use Rattle.dt_tree.specs.NodeData.{Siblings}
use Rattle.dt_patch.specs.declared.view.error.ViewError.{ViewError}
use Rattle.dt_patch.specs.declared.view.stepping.Step.{Step}
use Rattle.dt_patch.specs.declared.view.stepping.Step.TheVariants as step
use Rattle.dt_patch.specs.declared.view.view.View.{View}
use Rattle.dt_patch.specs.View.Stepping.{TellsStep}
use Rattle.dtman_view_c.specs.declared.told.ViewTold.{ViewTold}
use Rattle.dtman_view_c.specs.Told.{done, failed, nothing, out}

abbrev pub IsToldStep : Result Step ViewError → ℕ → ViewTold → Type 0
IsToldStep (Ok (step.Node place levels)) deep told = (told ≡ done place.at) × (deep ≡ levels)
IsToldStep (Ok (step.Out at)) deep told = told ≡ out at
IsToldStep (Ok (step.Over left)) deep told = (told ≡ nothing) × (deep ≡ left)
IsToldStep (Err error) deep told = told ≡ failed error

-- what is told is an answer that may be given
abbrev pub TellsSteps : View → List Siblings → ℕ → ℕ → ViewTold → Type 0
TellsSteps view fs depth deep told = (answer : Result Step ViewError) × TellsStep view answer depth fs × IsToldStep answer deep told
