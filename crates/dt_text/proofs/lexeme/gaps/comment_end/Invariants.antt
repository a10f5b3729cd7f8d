use Rattle.std.proofs.Common.{◌≡◌, ◌≤◌, length}
use Rattle.dt_text.specs.Lexeme.Gaps.{comment_end}
use Rattle.dt_text.proofs.lexeme.gaps.comment_end.Given as goal

abbrev pub invariant-loop-left : goal.invariant-loop-left
invariant-loop-left l = record { same : comment_end l.left ≡ comment_end l.s; shorter : length l.left ≤ length l.s }

abbrev pub decreases-loop-left : goal.decreases-loop-left
decreases-loop-left l = length l.left
