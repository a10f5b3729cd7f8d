use Rattle.std.proofs.Common.{None, false, arith}
use Rattle.dt_live.proofs.PlacedLemmas.Values.{valued-entered}
use Rattle.dt_live.proofs.PlacedLemmas.PropertyEdits.{reserved, sound-entered}
use Rattle.dt_live.proofs.placed.placed_tree.PlacedTree.reserve_property.Goals as goal

pub returns-clause-sound : goal.returns-clause-sound
returns-clause-sound g c =
    let d = c.args.self.now in
    record {
      tables = sound-entered d c.requires.sound c.args.node c.requires.node c.args.name None 0 (omega arith) c.enter.new.self c.in_ok-enter.field-0 c.in_ok-enter.ensures;
      marks = c.requires.sound.marks;
      single = c.requires.sound.single;
      chained = c.requires.sound.chained;
      valued = valued-entered d.properties c.requires.sound.valued (record { owner = c.args.node; name = c.args.name; value = None; made = 0; removed = false; again = false }) (λ le. absurd (omega (arith, le))) c.enter.new.self c.in_ok-enter.field-0 c.in_ok-enter.ensures;
    }

pub returns-clause-tree : goal.returns-clause-tree
returns-clause-tree g c =
    λ read. reserved c.args.self.now c.requires.sound c.args.node c.requires.node c.args.name read c.enter.new.self c.in_ok-enter.field-0 c.in_ok-enter.ensures
