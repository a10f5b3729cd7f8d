use Rattle.std.proofs.Common.{◌≡◌, ◌≤◌, ◌<◌, length, ℕ}
use Rattle.dt_source.specs.Reading.Values.{built}
use Rattle.dt_source.specs.Reading.Bodies.{cells_at}
use Rattle.dt_source.specs.Reading.Loops.{into, folded}
use Rattle.dt_source.proofs.CellLoops.{cell_onto, cells_left}
use Rattle.dt_source.proofs.cells.cells.Given as goal

abbrev pub invariant-cells : goal.invariant-cells
invariant-cells l = record {
  shorter : length l.left ≤ length l.ts;
  so_far : (n : ℕ) × (length l.left < n) × (folded (cell_onto l.text l.width) (built l.parts) l.first (cells_left l.text l.width n l.left) ≡ into (built l.fn.parts) (cells_at l.text l.width l.ts));
}

abbrev pub decreases-cells : goal.decreases-cells
decreases-cells l = length l.left
