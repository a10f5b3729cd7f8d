-- What a call changes: one block, and no other.
use Rattle.std.specs.Prelude.{◌≡◌, ◌≤◌, ◌<◌, ◌+◌, ◌-◌, ℕ, List, length, get_or}
use Rattle.dtman_arena_c.specs.Marks.{AreFree, Begins}

-- from this granule on `old` granules were a block's and those behind them free, up to `new`; now `new` of them are, and those behind them free,
-- up to `old`. 0 of them are none. All other marks are as they were.
pub record Becomes (at old new : ℕ) (before after : List ℕ) : Type 0 where
  pub same_length : length after ≡ length before
  pub below : (k : ℕ) → k < at → get_or after k 0 ≡ get_or before k 0
  pub above : (k : ℕ) → at + old ≤ k → at + new ≤ k → get_or after k 0 ≡ get_or before k 0
  pub was_block : Begins before at old
  pub was_free : AreFree before (at + old) (new - old)
  pub is_block : Begins after at new
  pub is_free : AreFree after (at + new) (old - new)
