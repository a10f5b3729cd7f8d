use Rattle.std.proofs.Common.{◌≡◌, ◌++◌, drop}
use Rattle.dtman_check.specs.Table.Units.{same_units}
use Rattle.dtman_check.proofs.table.units.find_same.Given as goal

-- what is found so far and what is left to find is the whole
abbrev pub invariant-loop-place : goal.invariant-loop-place
invariant-loop-place l =
    l.findings.items ++ same_units l.check l.later (drop l.place-index l.earlier) ≡ l.fn.findings.items ++ same_units l.check l.later l.earlier
