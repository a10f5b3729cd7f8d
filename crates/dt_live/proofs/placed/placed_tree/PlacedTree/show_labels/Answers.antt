use Rattle.std.proofs.Common.{◌≡◌, map, sym, ap, ◌∙◌}
use Rattle.dt_source.specs.TreeMeaning.DtcStatements.{label_twice}
use Rattle.dt_live.specs.Placed.Standing.{label_of, ordered_labels}
use Rattle.dt_live.proofs.PlacedLemmas.TreeLeft.{ordered-twice}
use Rattle.dt_live.proofs.placed.placed_tree.PlacedTree.show_labels.Goals as goal

pub returns-clause-refused : goal.returns-clause-refused
returns-clause-refused g c = λ at e.
    let d = c.args.self.now in
    let is : map (label_of d) c.as_slice.result.now ≡ ordered_labels d = ap (map (label_of d)) c.as_slice.ensures.value ∙ c.in_ok-rows.ensures.labels in
    ordered-twice d c.requires.sound (ap label_twice (sym is) ∙ c.show_words.ensures.refused at e)
