use Rattle.std.proofs.Common.{length, ◌≡◌}
use Rattle.dt_questions.specs.Question.{has_number}
use Rattle.dt_questions.proofs.question.has_number.Given as goal

-- the cells that are left say what all say
abbrev pub invariant-loop-cell : goal.invariant-loop-cell
invariant-loop-cell l = has_number l.number l.rest ≡ has_number l.number l.value

abbrev pub decreases-loop-cell : goal.decreases-loop-cell
decreases-loop-cell l = length l.rest
