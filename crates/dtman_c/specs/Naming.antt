-- What a caller gets that asks for a fault's name.
use Rattle.std.specs.Prelude.{◌≡◌, ℕ, List, Option, Some, None}
use Rattle.dtman_engine.specs.Explain.{name_for}
use Rattle.dtman_c.specs.declared.answer.Answer.{Answer}
use Rattle.dtman_c.specs.Crossing.{IsPut, unnamed}

-- a name is put into the buffer, where there is one
abbrev pub IsNamePut : Option (List ℕ) → List ℕ → List ℕ → Answer → Type 0
IsNamePut (Some name) before after told = IsPut name before after told
IsNamePut None before after told = (told ≡ unnamed) × (after ≡ before)

-- where a refusal has the number, its name is
abbrev pub IsNameGiven : ℕ → List ℕ → List ℕ → Answer → Type 0
IsNameGiven number before after told = IsNamePut (name_for number) before after told
