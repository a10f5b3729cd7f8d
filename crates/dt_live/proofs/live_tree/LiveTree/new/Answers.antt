use Rattle.std.proofs.Common.{arith}
use Rattle.dt_live.proofs.Empty.{no-rows}
use Rattle.dt_live.proofs.live_tree.LiveTree.new.Goals as goal

pub returns-clause-sound : goal.returns-clause-sound
returns-clause-sound g c =
    no-rows _ _ _ _ _ _ c.new.ensures.items c.new-2.ensures.items c.new-3.ensures.items c.new-4.ensures.rows c.new-5.ensures.rows c.new-6.ensures.rows

pub returns-clause-stamped : goal.returns-clause-stamped
returns-clause-stamped g c n k = (omega (arith, c.new-4.ensures.stamps n k), omega (arith, c.new-5.ensures.stamps n k))
