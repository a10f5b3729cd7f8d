use Rattle.std.proofs.Common.{◌≡◌, ◌++◌}
use Rattle.dt_questions.specs.Regions.{regions_on, regions_within}
use Rattle.dt_questions.proofs.regions.add_within.Given as goal

-- what is found so far and by the rows that are left is all
abbrev pub invariant-loop-left : goal.invariant-loop-left
invariant-loop-left l = l.found.items ++ regions_within l.survey l.node l.bus l.left l.names l.rows
    ≡ l.fn.found.items ++ regions_on l.fn.survey l.fn.node l.fn.bus l.fn.names l.fn.value

abbrev pub decreases-loop-left : goal.decreases-loop-left
decreases-loop-left l = l.left
