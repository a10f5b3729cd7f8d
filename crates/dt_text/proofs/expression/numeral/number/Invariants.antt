use Rattle.std.proofs.Common.{◌≡◌, drop}
use Rattle.std.specs.Prelude.{fold, Some}
use Rattle.dt_text.specs.Expression.Values.{number_step, number_of, below_64}
use Rattle.dt_text.proofs.expression.numeral.number.Given as goal

abbrev pub invariant-loop-c : goal.invariant-loop-c
invariant-loop-c l = below_64 (fold (number_step l.base) (Some l.number) (drop l.c-index l.digits)) ≡ below_64 (number_of l.base l.digits)
