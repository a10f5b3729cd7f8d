-- What a caller gets that asks for a block, or for another length of one.
use Rattle.std.specs.Prelude.{◌≡◌, ◌<◌, ◌+◌, ◌-◌, ℕ, Bool, List, true, false}
use Rattle.dtman_arena_c.specs.declared.blocks.Taken.{Taken}
use Rattle.dtman_arena_c.specs.Blocks.{Becomes}
use Rattle.dtman_arena_c.specs.Marks.{AreFree, IsLength}

-- a block of so many granules that were free, or the marks as they were, where there is no run of so many
pub record IsTaken (count : ℕ) (before after : List ℕ) (told : Taken) : Type 0 where
  pub some : told.found ≡ true → 0 < count
  pub taken : told.found ≡ true → Becomes told.at 0 count before after
  pub unchanged : told.found ≡ false → after ≡ before
  pub none : told.found ≡ false → 0 < count → (at : ℕ) → AreFree before at count → ⊥

-- the block that begins here has so many granules: fewer, or more where those behind it were free; or the marks are as they were, where no block
-- begins here, none is to be left, or one of those isn't free
pub record IsResized (at count : ℕ) (before after : List ℕ) (done : Bool) : Type 0 where
  pub length : ℕ
  pub is_length : IsLength before at length
  pub some : done ≡ true → (0 < count) × (0 < length)
  pub resized : done ≡ true → Becomes at length count before after
  pub unchanged : done ≡ false → after ≡ before
  pub no_room : done ≡ false → 0 < count → 0 < length → AreFree before (at + length) (count - length) → ⊥
