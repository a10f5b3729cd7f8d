use Rattle.std.proofs.Common.{◌≡◌}
use Rattle.dt_check.specs.Links.Interrupts.{search_from}
use Rattle.dt_check.proofs.links.interrupts.search_from.Given as goal

-- the way from here over the levels that are left is the whole
abbrev pub invariant-loop-left : goal.invariant-loop-left
invariant-loop-left l = search_from l.survey l.own l.left l.at ≡ search_from l.survey l.own l.levels l.own

abbrev pub decreases-loop-left : goal.decreases-loop-left
decreases-loop-left l = l.left
