use Rattle.std.proofs.Common.{◌≡◌}
use Rattle.dt_questions.specs.Nodes.{is_used_within}
use Rattle.dt_questions.proofs.nodes.is_used_within.Given as goal

-- the levels that are left say what all say
abbrev pub invariant-loop-left : goal.invariant-loop-left
invariant-loop-left l = is_used_within l.survey l.left l.at ≡ is_used_within l.survey l.levels l.place

abbrev pub decreases-loop-left : goal.decreases-loop-left
decreases-loop-left l = l.left
