use Rattle.std.proofs.Common.{◌≡◌, ◌≤◌, drop, length, false}
use Rattle.std.specs.Fmt.{digits_onto}
use Rattle.dt_source.specs.TreeMeaning.Names.{decimal}
use Rattle.dt_build.proofs.digits.put_digits.Given as goal

abbrev pub invariant-loop-at : goal.invariant-loop-at
invariant-loop-at l = record {
  long : length l.room ≡ 20;
  within : l.at ≤ 20;
  digits : digits_onto l.at 10 false l.rest (drop l.at l.room) ≡ decimal l.fn.number;
}

abbrev pub decreases-loop-at : goal.decreases-loop-at
decreases-loop-at l = l.at
