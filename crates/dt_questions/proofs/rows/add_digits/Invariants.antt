use Rattle.std.proofs.Common.{length, ◌++◌, ◌≡◌}
use Rattle.dt_check.specs.Cells.{cells_of}
use Rattle.dt_questions.specs.Rows.{digits_of}
use Rattle.dt_questions.proofs.rows.add_digits.Given as goal

-- the text so far and the cells that are left are all
abbrev pub invariant-loop-cell : goal.invariant-loop-cell
invariant-loop-cell l = l.text.items ++ digits_of (cells_of l.rest) ≡ l.fn.text.items ++ digits_of (cells_of l.cells)

abbrev pub decreases-loop-cell : goal.decreases-loop-cell
decreases-loop-cell l = length l.rest
