use Rattle.std.proofs.Common.{◌≡◌, drop}
use Rattle.dtman_blobs.specs.Saying.{digits_behind}
use Rattle.dtman_blobs.proofs.saying.numeral.Given as goal

-- the digits that are left give the number of all
abbrev pub invariant-loop-letter : goal.invariant-loop-letter
invariant-loop-letter l = digits_behind l.radix l.number (drop l.letter-index l.digits) ≡ digits_behind l.radix 0 l.digits
