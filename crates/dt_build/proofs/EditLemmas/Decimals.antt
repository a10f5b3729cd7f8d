-- The digits of a number, as std writes them.
use Rattle.std.proofs.Common.{◌≡◌, ℕ, ◌<◌, ◌^◌, [], ◌∙◌, false, rules, arith}
use mathlib.Core.List.{append-nil}
use Rattle.std.specs.Fmt.{digits_onto, decimal}
use Rattle.std.proofs.lemmas.Fmt.{PrependsLastDigit, decimal_from_prepends, length-decimal-le}
use Rattle.dt_source.specs.TreeMeaning.Names as names

prepends : PrependsLastDigit (λ k n acc. digits_onto k 10 false n acc)
prepends = search rules

pub decimal-is : (n : ℕ) → n < 2 ^ 64 → names.decimal n ≡ decimal n
unfolding names.decimal
decimal-is n small = decimal_from_prepends (λ k n acc. digits_onto k 10 false n acc) prepends 20 n [] small (length-decimal-le 20 n (omega arith) (omega arith) small) ∙ append-nil (decimal n)
