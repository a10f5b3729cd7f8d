-- The rows that code reads.
use Rattle.std.proofs.Common.{◌≡◌, ℕ, ◌<◌, false, List, [], length, ap, ◌∙◌}
use Rattle.std.specs.Prelude.{slice_index_or}
use Rattle.std.proofs.lemmas.List.{get_or_default}
use Rattle.dt_live.specs.declared.live_tree.NodeRow.{NodeRow}
use Rattle.dt_live.specs.Rows.{no_row, row_at}

-- the row that code reads where there is none
abbrev pub blank_row : NodeRow
blank_row = record { parent = 0; name = record { ref_ptr = (0, 0); now = [] }; removed = false; at = 0 }

pub row-read : (all rows : List NodeRow) → all ≡ rows → (k : ℕ) → k < length rows → slice_index_or all k blank_row ≡ row_at rows k
row-read all rows same k below = ap (λ rs. slice_index_or rs k blank_row) same ∙ get_or_default rows k blank_row no_row below
