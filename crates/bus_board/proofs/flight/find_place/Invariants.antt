use Rattle.std.proofs.Common.{◌≡◌, ◌≢◌, ◌<◌, ℕ, Bool, Option, Some}
use Rattle.std.specs.Prelude.{slice_get}
use Rattle.bus_board.proofs.flight.find_place.Given as goal

abbrev pub invariant-loop-place : goal.invariant-loop-place
invariant-loop-place l = (i : ℕ) (x : ℕ × Option Bool) → i < l.place → slice_get l.looks i ≡ Some x → x.0 ≢ l.supplier
