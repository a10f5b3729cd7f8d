use Rattle.std.proofs.Common.{◌∷◌, ◌-◌, List, ap, sym, ◌∙◌}
use Rattle.std.specs.Int.{from_be_bytes, w32}
use Rattle.dtman_blobs.specs.Difference.Named.{named_by}
use Rattle.dtman_blobs.specs.Difference.Seen.{Part, number}
use Rattle.dtman_blobs.specs.Difference.Private.FormView.{form_data}
use Rattle.dtman_blobs.specs.Difference.Private.Views.{part_data}
use Rattle.dtman_blobs.proofs.DifferenceLemmas.CellLemmas.{cell-whole, first-next, inside-next, left-next, left-of}
use Rattle.dtman_blobs.proofs.difference.parts.Seen.next_part.Goals as goal

pub returns-then-self-gt0-clause-part : goal.returns-then-self-gt0-clause-part
returns-then-self-gt0-clause-part c =
    let s = c.args.self.now in
    let cell = c.in-Some-split_cell.cell.now in
    let more = c.in-Some-split_cell.more.now in
    left-next s c.in-Some.form cell more c.in-Some.is c.in-Some-split_cell.ensures.0 c.in-Some-split_cell.ensures.1
    ∙ inside-next (named_by s.naming.now) (form_data c.in-Some.form) s.left cell more c.if-self-gt0.true
    ∙ ap (λ (l : List Part). number cell ∷ l) (sym (left-of (record { naming = s.naming; form = s.form; left = s.left - 1; rest = c.in-Some-split_cell.more }) c.in-Some.form c.in-Some.is))

pub returns-clause-part : goal.returns-clause-part
returns-clause-part c =
    let s = c.args.self.now in
    let cell = c.in-Some-split_cell.cell.now in
    let more = c.in-Some-split_cell.more.now in
    left-next s c.in-Some.form cell more c.in-Some.is c.in-Some-split_cell.ensures.0 c.in-Some-split_cell.ensures.1
    ∙ first-next (named_by s.naming.now) (form_data c.in-Some.form) s.left cell more (part_data c.phandle_part.result) c.cells_behind-self.result _ c.if-self-gt0.false
    (c.named-named.ensures ∙ ap (named_by s.naming.now) c.cell_at.ensures ∙ ap (λ bytes. named_by s.naming.now (from_be_bytes w32 bytes)) (cell-whole cell c.in-Some-split_cell.ensures.1)) c.phandle_part.ensures c.cells_behind-self.ensures
    ∙ ap (λ (l : List Part). part_data c.phandle_part.result ∷ l) (sym (left-of (record { naming = s.naming; form = s.form; left = c.cells_behind-self.result; rest = c.in-Some-split_cell.more }) c.in-Some.form c.in-Some.is))
