use Rattle.std.proofs.Common.{List, sym, ap, ◌∙◌}
use Rattle.std.specs.Prelude.{slice_index_or}
use Rattle.std.specs.List.{list_any}
use Rattle.dt_source.specs.TreeMeaning.Edits.{Label}
use Rattle.dt_source.specs.TreeMeaning.DtcStatements.{same_label}
use Rattle.dt_live.specs.Placed.Standing.{label_of}
use Rattle.dt_live.proofs.PlacedLemmas.WordsGiven.{twice-taken}
use Rattle.dt_live.proofs.placed.placed_tree.PlacedTree.show_words.Goals as goal

pub returns-in-Err-clause-refused : goal.returns-in-Err-clause-refused
returns-in-Err-clause-refused g c = λ at is.
    let d = c.args.self.now in
    let rows = c.args.rows.now in
    let i = c.loop-row.row-index in
    twice-taken d rows i c.loop-row-test.true
    (ap (λ (ls : List Label). list_any (same_label (label_of d (slice_index_or rows i 0))) ls) (sym c.loop-row.invariant.labels) ∙ c.in-Err.ensures.refused at is)
