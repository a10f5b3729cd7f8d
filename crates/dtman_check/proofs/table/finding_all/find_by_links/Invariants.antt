use Rattle.std.proofs.Common.{◌≡◌, ◌++◌, drop}
use Rattle.dtman_check.specs.Table.Found.{found_by_links}
use Rattle.dtman_check.proofs.table.finding_all.find_by_links.Given as goal

-- what is found so far and what is left to find is the whole
abbrev pub invariant-loop-rule : goal.invariant-loop-rule
invariant-loop-rule l = l.findings.items ++ found_by_links l.check l.survey l.place l.here (drop l.rule-index l.rules) ≡ l.fn.findings.items ++ found_by_links l.check l.survey l.place l.here l.rules
