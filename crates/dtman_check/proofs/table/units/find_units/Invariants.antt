use Rattle.std.proofs.Common.{◌≡◌, ◌++◌, drop}
use Rattle.dtman_check.specs.Table.Units.{units_found, units_found_from}
use Rattle.dtman_check.proofs.table.units.find_units.Given as goal

-- what is found so far and what is left to find is the whole
abbrev pub invariant-loop-above : goal.invariant-loop-above
invariant-loop-above l =
    l.findings.items ++ units_found_from l.check l.fn.counted l.survey l.above (drop l.above l.nodes) ≡ units_found l.check l.fn.counted l.survey
