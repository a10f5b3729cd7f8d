-- The strings of a line are added to a list.
use Rattle.std.specs.Prelude.{ℕ, List, Result, Ok}
use Rattle.dt_tree.specs.Steps.{then_do}
use Rattle.bus_plan.specs.declared.error.PlanError.{PlanError}
use Rattle.bus_links.specs.LinkFile.{with_strings}

abbrev pub with_own : List (List ℕ) → Result (List (List ℕ)) PlanError → Result (List (List ℕ)) PlanError
with_own set said = then_do said (λ strings. Ok (with_strings set strings))
