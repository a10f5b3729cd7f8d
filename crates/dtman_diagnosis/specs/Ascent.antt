-- Faults in the order of a text.
use Rattle.std.specs.Prelude.{◌<◌, ℕ, List, [], ◌∷◌}
use Rattle.dtman_diagnosis.specs.declared.further.Found.{Found}

-- each begins behind the one before it, and the first behind this byte
abbrev pub Ascend : ℕ → List Found → Type 0
Ascend behind [] = Unit {0}
Ascend behind (found ∷ rest) = (behind < found.span.start) × Ascend found.span.start rest
