-- Bytes with others in the place of some, and what the header tells of them.
use Rattle.std.specs.Prelude.{◌≡◌, ℕ, ◌+◌, ◌-◌, List, ◌++◌, length, take, drop}
use Rattle.dt_blob.specs.HeaderWords.{word_at}
use Rattle.dt_patch.specs.declared.layout.Layout.{Layout}

-- the bytes from one place up to another
abbrev pub between : ℕ → ℕ → List ℕ → List ℕ
between from to bytes = take (to - from) (drop from bytes)

-- other bytes from `at` on in the place of those up to `next`; what stands behind them up to `end` is moved, and bytes are added to it
abbrev pub spliced : List ℕ → ℕ → ℕ → ℕ → List ℕ → List ℕ → List ℕ
spliced bytes at next end new added =
    take at bytes ++ (new ++ (between next end bytes ++ (added ++ drop (at + length new + (end - next) + length added) bytes)))

-- the header's words say where the blocks stand
pub record IsLayout (bytes : List ℕ) (l : Layout) : Type 0 where
  pub size : l.size ≡ word_at 4 bytes
  pub structure_at : l.structure_at ≡ word_at 8 bytes
  pub strings_at : l.strings_at ≡ word_at 12 bytes
  pub strings_size : l.strings_size ≡ word_at 32 bytes
  pub structure_size : l.structure_size ≡ word_at 36 bytes

-- the header says so, and all else is as it was
pub record IsRelaid (old new : List ℕ) (l : Layout) : Type 0 where
  pub behind : drop 40 new ≡ drop 40 old
  pub long : length new ≡ length old
  pub layout : IsLayout new l
  pub magic : word_at 0 new ≡ word_at 0 old
  pub reserves_at : word_at 16 new ≡ word_at 16 old
  pub version : word_at 20 new ≡ word_at 20 old
  pub compatible : word_at 24 new ≡ word_at 24 old
  pub boot_cpu : word_at 28 new ≡ word_at 28 old
