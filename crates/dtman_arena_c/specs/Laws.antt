-- What holds of blocks whatever the marks are.
use Rattle.std.specs.Prelude.{◌≡◌, ◌↔◌, ◌≤◌, ◌<◌, ◌+◌, ℕ, List}
use Rattle.dtman_arena_c.specs.Blocks.{Becomes}
use Rattle.dtman_arena_c.specs.Marks.{IsBlock}

-- no granule is in two blocks
abbrev pub BlocksAreApart : Type 0
BlocksAreApart = (marks : List ℕ) (a b m n : ℕ) → IsBlock marks a m → IsBlock marks b n → a < b → a + m ≤ b

-- where a block becomes another, each other block is as it was
abbrev pub OthersStay : Type 0
OthersStay = (at old new : ℕ) (before after : List ℕ) → Becomes at old new before after
    → (b n : ℕ) → (b ≡ at → ⊥) → IsBlock before b n ↔ IsBlock after b n
