-- The suppliers of a device while its properties are read.
use Rattle.std.specs.Prelude.{◌≡◌, ◌⊎◌, ℕ, ◌||◌, ◌==◌, if◌then◌else◌, List, [], ◌∷◌, ◌++◌, Result, Ok, Err, MatchResult}
use Rattle.std.specs.List.{list_any}
use Rattle.bus_plan.specs.declared.error.PlanError.{PlanError}
use Rattle.bus_plan.specs.declared.error.PlanError.TheVariants.{NoMemory}
use Rattle.dt_tree.specs.Steps.{then_do}

-- the device itself, and its suppliers so far
pub record Suppliers : Type 0 where
  pub own : ℕ
  pub found : List ℕ

-- a device that is referred to
abbrev pub with_mention : Suppliers → ℕ → Suppliers
with_mention s d = if d == s.own || list_any (λ e. d == e) s.found then s else record { own = s.own; found = s.found ++ d ∷ [] }

abbrev pub with_mentions : Suppliers → List ℕ → Suppliers
with_mentions s [] = s
with_mentions s (d ∷ ds) = with_mentions (with_mention s d) ds

-- those that are referred to, unless there is a fault
abbrev pub adding : Suppliers → Result (List ℕ) PlanError → Result Suppliers PlanError
adding s mentioned = then_do mentioned (λ ds. Ok (with_mentions s ds))

-- a call adds those that are referred to, and answers the fault, but for want of memory
abbrev pub IsAdded : Result (List ℕ) PlanError → Suppliers → Result (Unit {0}) PlanError → Suppliers → Type 0
IsAdded mentioned old result new =
    MatchResult result (λ _. adding old mentioned ≡ Ok new) (λ e. (e ≡ NoMemory) ⊎ (adding old mentioned ≡ Err e))
