use Rattle.std.proofs.Common.{◌≡◌, ◌<◌, ℕ, Bool, true, Option, Some}
use Rattle.std.specs.Prelude.{slice_get}
use Rattle.bus_board.proofs.flight.saw_all.Given as goal

abbrev pub invariant-loop-look : goal.invariant-loop-look
invariant-loop-look l = (i : ℕ) (x : ℕ × Option Bool) → i < l.look-index → slice_get l.looks i ≡ Some x → x.1 ≡ Some true
