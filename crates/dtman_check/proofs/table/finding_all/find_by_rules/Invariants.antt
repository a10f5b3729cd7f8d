use Rattle.std.proofs.Common.{◌≡◌, ◌++◌, drop}
use Rattle.dtman_check.specs.Table.Found.{found_by_rules}
use Rattle.dtman_check.proofs.table.finding_all.find_by_rules.Given as goal

-- what is found so far and what is left to find is the whole
abbrev pub invariant-loop-rule : goal.invariant-loop-rule
invariant-loop-rule l = l.findings.items ++ found_by_rules l.check l.place l.here (drop l.rule-index l.rules) ≡ l.fn.findings.items ++ found_by_rules l.check l.place l.here l.rules
