use Rattle.std.proofs.Common.{map, sym, ap, ◌∙◌, arith}
use Rattle.std.proofs.lemmas.List.{take_all}
use Rattle.dt_source.specs.TreeMeaning.DtcStatements.{label_twice}
use Rattle.dt_source.specs.TreeMeaning.Places.{what_stands}
use Rattle.dt_live.specs.Placed.PlacedTrees.{label_seen}
use Rattle.dt_live.specs.Placed.Tables.{rows_in}
use Rattle.dt_live.proofs.PlacedLemmas.LabelsOnce.{none-noted}
use Rattle.dt_live.proofs.placed.placed_tree.PlacedTree.check_labels.Goals as goal

pub loop-row-init : goal.loop-row-init
loop-row-init g c = none-noted c.args.self.now c.new-words.result c.new-words.ensures.rows

pub returns-clause-once : goal.returns-clause-once
returns-clause-once g c =
    let d = c.args.self.now in
    ap (λ rows. label_twice (what_stands (map (label_seen (rows_in d.nodes)) rows))) (sym (take_all c.loop-row.row (rows_in d.labels) (omega (arith, c.loop-row-test.false, c.len-row-end.ensures))))
    ∙ c.loop-row.invariant.once
