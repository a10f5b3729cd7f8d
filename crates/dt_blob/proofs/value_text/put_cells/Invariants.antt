use Rattle.std.proofs.Common.{◌≡◌, ◌*◌, ◌++◌, ◌∷◌, false, drop}
use Rattle.dt_blob.specs.SourceText.{cells_text}
use Rattle.dt_blob.proofs.value_text.put_cells.Given as goal

abbrev pub invariant-loop-cell : goal.invariant-loop-cell
invariant-loop-cell l = l.out.items ++ cells_text l.later (drop (4 * l.cell) l.value) ≡ l.fn.out.items ++ 60 ∷ cells_text false l.value
