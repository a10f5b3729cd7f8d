-- All bytes so far are of the class.
use Rattle.std.proofs.Common.{◌≡◌, ℕ, ◌<◌, true, get_or}
use Rattle.dt_text.specs.Include.Bytes.{passes}
use Rattle.dt_text.proofs.include.bytes.run_len.Given as goal

abbrev pub invariant-loop-i : goal.invariant-loop-i
invariant-loop-i l = (k : ℕ) → k < l.i → passes l.class (get_or l.s k 0) ≡ true
