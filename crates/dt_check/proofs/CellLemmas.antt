-- The cells of a value.
use Rattle.std.proofs.Common.{ℕ, ◌+◌, ◌*◌, ◌<◌, ◌≤◌, List, [], ◌∷◌, length, arith}
use Rattle.dt_check.specs.Cells.{cells_of}

-- a cell has four bytes
pub cell-bytes : (v : List ℕ) → (4 * length (cells_of v) ≤ length v) × (length v < 4 * length (cells_of v) + 4)
cell-bytes [] = (omega arith, omega arith)
cell-bytes (a ∷ []) = (omega arith, omega arith)
cell-bytes (a ∷ b ∷ []) = (omega arith, omega arith)
cell-bytes (a ∷ b ∷ c ∷ []) = (omega arith, omega arith)
cell-bytes (a ∷ b ∷ c ∷ d ∷ more) = let rest = cell-bytes more in (omega (arith, rest.0), omega (arith, rest.1))
