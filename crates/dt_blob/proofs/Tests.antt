-- What answers of tests say.
use Rattle.std.proofs.Common.{◌≡◌, ℕ, ◌<◌, ◌≤◌, Bool, true, false, not, ◌&&◌, ◌==◌, Option, Some, None, refl, arith}
use Rattle.std.specs.Prelude.{if◌then◌else◌, nat_lt, nat_le}
use Rattle.std.proofs.lemmas.Bool.Decides.{nat_tests}

pub below : (a b : ℕ) → nat_lt a b ≡ true → a < b
below a b e = grind (arith, nat_tests)

pub not_below : (a b : ℕ) → nat_lt a b ≡ false → b ≤ a
not_below a b e = grind (arith, nat_tests)

pub at_most : (a b : ℕ) → nat_le a b ≡ true → a ≤ b
at_most a b e = grind (arith, nat_tests)

pub equal : (a b : ℕ) → (a == b) ≡ true → a ≡ b
equal a b e = grind (arith, nat_tests)

pub test_below : (a b : ℕ) → a < b → nat_lt a b ≡ true
test_below a b e = grind (arith, nat_tests)

pub test_not_below : (a b : ℕ) → b ≤ a → nat_lt a b ≡ false
test_not_below a b e = grind (arith, nat_tests)

pub test_at_most : (a b : ℕ) → a ≤ b → nat_le a b ≡ true
test_at_most a b h = grind (arith, nat_tests)

pub test_equal : (a b : ℕ) → a ≡ b → (a == b) ≡ true
test_equal a b h = grind (arith, nat_tests)

pub test_unequal : (a b : ℕ) → b < a → (a == b) ≡ false
test_unequal a b e = grind (arith, nat_tests)

pub both : (a b : Bool) → (a && b) ≡ true → (a ≡ true) × (b ≡ true)
both true b e = (refl, e)
both false b e = absurd (cc e)

pub not_false : (b : Bool) → not b ≡ false → b ≡ true
not_false true e = refl
not_false false e = absurd (cc e)

pub not_true : (b : Bool) → not b ≡ true → b ≡ false
not_true true e = absurd (cc e)
not_true false e = refl

-- a refusal that doesn't come
pub no_fault : {E : Type 0} (b : Bool) (x : E) (o : Option E) → (if b then Some x else o) ≡ None → (b ≡ false) × (o ≡ None)
no_fault true x o e = absurd (cc e)
no_fault false x o e = (refl, e)

-- something comes only past the test
pub guarded : {A : Type 0} (b : Bool) (o : Option A) (y : A) → (if b then None else o) ≡ Some y → (b ≡ false) × (o ≡ Some y)
guarded true o y e = absurd (cc e)
guarded false o y e = (refl, e)
