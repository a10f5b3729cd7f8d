use Rattle.dt_live.specs.Placed.Tables.{rows_in}
use Rattle.dt_live.specs.Placed.Shown.{AreShown}
use Rattle.dt_live.proofs.placed.shown.show_nodes.Given as goal

abbrev pub invariant-loop-row : goal.invariant-loop-row
invariant-loop-row g l = AreShown (rows_in l.nodes) l.row l.shown
