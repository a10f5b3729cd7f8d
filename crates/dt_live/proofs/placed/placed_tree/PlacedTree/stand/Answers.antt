use Rattle.std.proofs.Common.{◌≡◌, length, map, ap, ◌∙◌, arith}
use Rattle.std.specs.Result.{result_map_both}
use Rattle.std.proofs.lemmas.List.{take_all}
use Rattle.std.proofs.lemmas.Result.{err_from_is_err_and}
use Rattle.dt_source.specs.TreeMeaning.Places.{what_stands}
use Rattle.dt_live.specs.Rows.{state_of}
use Rattle.dt_live.specs.Placed.PlacedTrees.{property_seen}
use Rattle.dt_live.specs.Placed.Standing.{read_with}
use Rattle.dt_live.specs.Placed.Tables.{rows_in}
use Rattle.dt_live.proofs.PlacedLemmas.TreeLeft.{none-more, state-left}
use Rattle.dt_live.proofs.placed.placed_tree.PlacedTree.stand.Goals as goal

pub show_properties-requires-clause-shown : goal.show_properties-requires-clause-shown
show_properties-requires-clause-shown g c = none-more c.args.self.now c.in_ok-shown.shown c.in_ok-shown.ensures

pub returns-clause-tree : goal.returns-clause-tree
returns-clause-tree g c = λ read.
    let d = c.args.self.now in
    let s = c.show_labels.new.shown in
    let rows = rows_in d.properties in
    let properties : read_with read (state_of s.live).properties ≡ what_stands (map (property_seen read (rows_in d.nodes)) rows) =
    ap (read_with read) c.in_ok-show_labels.ensures.properties
    ∙ c.in_ok-show_properties.ensures.properties_shown read
    ∙ ap (λ rs. what_stands (map (property_seen read (rows_in d.nodes)) rs)) (take_all (length rows) rows (omega arith)) in
    state-left d c.requires.sound read s c.in_ok-show_labels.ensures.shown properties c.in_ok-show_labels.ensures.labels

pub returns-in_err-check_labels-clause-refused : goal.returns-in_err-check_labels-clause-refused
returns-in_err-check_labels-clause-refused g c =
    let p = err_from_is_err_and c.from_residual-in_err-check_labels.result c.from_residual-in_err-check_labels.ensures.1 in
    rw (p.1, p.2) (λ at is. c.in_err-check_labels.ensures.refused at (ap (result_map_both (λ _. tt) (λ e. e)) is))

pub returns-in_err-show_labels-clause-refused : goal.returns-in_err-show_labels-clause-refused
returns-in_err-show_labels-clause-refused g c =
    let p = err_from_is_err_and c.from_residual-in_err-show_labels.result c.from_residual-in_err-show_labels.ensures.1 in
    rw (p.1, p.2) (λ at is. c.in_err-show_labels.ensures.refused at (ap (result_map_both (λ _. tt) (λ e. e)) is))
