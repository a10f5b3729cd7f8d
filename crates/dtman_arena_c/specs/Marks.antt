-- The marks of an arena, one for each of its granules of 16 bytes: 0 where no block has the granule, 1 where a block begins, 2 where one goes on.
use Rattle.std.specs.Prelude.{◌≡◌, ◌≤◌, ◌<◌, ◌+◌, ℕ, List, get_or}

-- no block has the granule; behind the last granule none is free
abbrev pub IsFree : List ℕ → ℕ → Type 0
IsFree marks k = get_or marks k 1 ≡ 0

abbrev pub IsFirst : List ℕ → ℕ → Type 0
IsFirst marks k = get_or marks k 0 ≡ 1

abbrev pub IsFurther : List ℕ → ℕ → Type 0
IsFurther marks k = get_or marks k 0 ≡ 2

-- so many granules from this one on are no block's
abbrev pub AreFree : List ℕ → ℕ → ℕ → Type 0
AreFree marks at n = (k : ℕ) → at ≤ k → k < at + n → IsFree marks k

-- the first granules of a block, as many as are said; none of 0
pub record Begins (marks : List ℕ) (at n : ℕ) : Type 0 where
  pub first : 0 < n → IsFirst marks at
  pub further : (k : ℕ) → at < k → k < at + n → IsFurther marks k

-- a block of so many granules
pub record IsBlock (marks : List ℕ) (at n : ℕ) : Type 0 where
  pub some : 0 < n
  pub begins : Begins marks at n
  pub ends : IsFurther marks (at + n) → ⊥

-- how many granules the block has that begins here, and 0 where none does
pub record IsLength (marks : List ℕ) (at n : ℕ) : Type 0 where
  pub block : 0 < n → IsBlock marks at n
  pub none : n ≡ 0 → IsFirst marks at → ⊥
