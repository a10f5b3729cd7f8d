-- The digits of a number, the last first.
use Rattle.std.proofs.Common.{◌≡◌, ℕ, ◌≤◌, List, false, length, drop, ap, arith}
use Rattle.std.specs.Fmt.{digits_onto}
use Rattle.std.proofs.Math.ListN.{drop_of_length-le}
use Rattle.dt_source.specs.TreeMeaning.Names.{decimal}

pub digits-start : (n : ℕ) (room : List ℕ) → length room ≡ 20 → digits_onto 20 10 false n (drop 20 room) ≡ decimal n
unfolding decimal
digits-start n room long = let short : length room ≤ 20 = omega (arith, long) in ap (digits_onto 20 10 false n) (drop_of_length-le room short)
