-- A run of bytes that pass a test, byte by byte.
use Rattle.std.proofs.Common.{◌≡◌, ℕ, suc, Bool, true, false, List, ◌∷◌, refl, arith}
use Rattle.std.specs.List.{prefix_len}

pub run_yes : (p : ℕ → Bool) (c : ℕ) (s : List ℕ) → p c ≡ true → prefix_len p (c ∷ s) ≡ suc (prefix_len p s)
run_yes p c s e = rw e (omega arith)

pub run_no : (p : ℕ → Bool) (c : ℕ) (s : List ℕ) → p c ≡ false → prefix_len p (c ∷ s) ≡ 0
run_no p c s e = rw e refl
