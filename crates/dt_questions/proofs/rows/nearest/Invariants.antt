use Rattle.std.proofs.Common.{◌≡◌, ◌≤◌, length}
use Rattle.dt_questions.specs.Rows.{nearest}
use Rattle.dt_questions.proofs.rows.nearest.Given as goal

-- the rows that are left say what all say
abbrev pub invariant-loop-left : goal.invariant-loop-left
invariant-loop-left l = record {
  same : nearest l.survey l.rows l.mention l.left l.at ≡ nearest l.survey l.rows l.mention l.most l.place;
  within : l.at ≤ length l.rows;
}

abbrev pub decreases-loop-left : goal.decreases-loop-left
decreases-loop-left l = l.left
