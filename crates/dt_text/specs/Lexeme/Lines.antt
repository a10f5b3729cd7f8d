-- Lines of a text.
use Rattle.std.specs.Prelude.{ℕ, ◌+◌, ◌==◌, List, take, count_by}

-- the line of a place, from 1: one more than there are line feeds before it
abbrev pub line_at : List ℕ → ℕ → ℕ
line_at text place = count_by (λ c. c == 10) (take place text) + 1
