-- The checks of an owed device.
use Rattle.std.specs.Prelude.{◌≡◌, ◌<◌, ◌≤◌, ℕ, List, Some, slice_index}
use Rattle.bus_core.specs.declared.settle.Outcome.TheVariants.{Bound}
use Rattle.bus_board.specs.Learns.{Paid}
use Rattle.bus_board.specs.Outcomes.{IsFront, outcome_of}
use Rattle.bus_board.specs.declared.view.View.{View}

-- the suppliers from one place to another were found BOUND, and no debt dropped
pub record HasChecked (v w : View) (suppliers : List ℕ) (from to : ℕ) : Type 0 where
  pub paid : Paid v w v.owed
  pub later : IsFront v.seen w.seen
  pub bound : (i : ℕ) → from ≤ i → i < to → outcome_of w.seen (slice_index suppliers i) ≡ Some Bound
