use Rattle.dt_live.specs.Placed.Tables.{found_in, rows_in}
use Rattle.dt_live.proofs.PlacedLemmas.LabelEdits.{marked-more, marks-more}
use Rattle.dt_live.proofs.PlacedLemmas.Owners.{standing-owner}
use Rattle.dt_live.proofs.placed.placed_tree.PlacedTree.mark.Goals as goal

pub returns-clause-sound : goal.returns-clause-sound
returns-clause-sound g c =
    let d = c.args.self.now in
    record {
      tables = c.requires.sound.tables;
      marks = marks-more (rows_in d.nodes) (found_in d.nodes) d.marks.items c.push.new.self.items c.args.node c.requires.sound.marks
          (standing-owner (rows_in d.nodes) (found_in d.nodes) c.requires.sound.tables.nodes_table c.requires.sound.tables.grown c.requires.sound.tables.node_owners c.args.node c.requires.node.known c.requires.node.there)
          c.in_ok-push.ensures.items;
      single = c.requires.sound.single;
      chained = c.requires.sound.chained;
      valued = c.requires.sound.valued;
    }

pub returns-clause-tree : goal.returns-clause-tree
returns-clause-tree g c = λ read. marked-more read c.args.self.now c.push.new.self.items c.args.node c.in_ok-push.ensures.items
