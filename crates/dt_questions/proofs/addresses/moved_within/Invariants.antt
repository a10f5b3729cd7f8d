use Rattle.std.proofs.Common.{◌≡◌}
use Rattle.dt_questions.specs.Addresses.{moved_within}
use Rattle.dt_questions.proofs.addresses.moved_within.Given as goal

-- the rows that are left say what all say
abbrev pub invariant-loop-left : goal.invariant-loop-left
invariant-loop-left l = moved_within l.cells l.left l.rest l.address ≡ moved_within l.fn.cells l.fn.most l.fn.rows l.fn.address

abbrev pub decreases-loop-left : goal.decreases-loop-left
decreases-loop-left l = l.left
