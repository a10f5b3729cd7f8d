-- The order of numbers.
use Rattle.std.proofs.Common.{◌≡◌, ℕ, ◌==◌, arith}
use Rattle.std.specs.Ordering.{nat_cmp, is_eq}
use Rattle.std.proofs.lemmas.Grind.{common_steps}

pub same-phandle : (a b : ℕ) → is_eq (nat_cmp a b) ≡ (a == b)
same-phandle a b = grind (arith, common_steps)
